-- `power`: one shifted left by k is the power, which a word holds.
use mathlib.Core.Path.{◌≡◌, ap, ◌∙◌}
use Prim.Native.Nat.{ℕ, ◌*◌, ◌%◌, ◌^◌}
use native.Mathlib.Nat.{mod-eq_of_lt}
use native.Mathlib.Omega.{arith}
use lib.Pow.{pow-lt}
use Rattle.bitset.proofs.power.Goals as goal

pub returns : goal.returns
returns c =
    let e : 1 * 2 ^ c.args.k ≡ 2 ^ c.args.k = omega arith in
    ap (λ (n : ℕ). n % 2 ^ 64) e ∙ mod-eq_of_lt (pow-lt c.requires)
