-- `plate::far_plate` meets its contract: below zero lies the lowest band, and past all ends the one beyond the stack.
use mathlib.Core.Path.{◌≡◌, sym, ap, ◌∙◌}
use mathlib.Core.Bool.{false, ◌&&◌}
use Prim.Native.Nat.{ℕ, ◌≤◌}
use native.Mathlib.Omega.{arith}
use lib.Dec.{ltb, leb}
use borrow.Author.Tests.{le-leb, ltb-false}
use Rattle.plate.proofs.Bands.{plate_is}
use Rattle.plate.proofs.far_plate.Goals as goal

-- from zero on only a load past all ends is far
past_ends : (code : ℕ) → 50001 ≤ code → (leb 50001 code && ltb code 60753) ≡ false → 60753 ≤ code
past_ends code l far = ltb-false code 60753 (sym (ap (λ t. t && ltb code 60753) (le-leb 50001 code l)) ∙ far)

pub returns-then-code-lt-CODE_OF_ZERO : goal.returns-then-code-lt-CODE_OF_ZERO
returns-then-code-lt-CODE_OF_ZERO c =
    plate_is c.args.code 50001 _ (record { small = omega arith; low = λ n. omega arith; high = λ n. omega arith })

pub returns-else-code-lt-CODE_OF_ZERO : goal.returns-else-code-lt-CODE_OF_ZERO
returns-else-code-lt-CODE_OF_ZERO c =
    let code = c.args.code in
    let l = past_ends code c.if-code-lt-CODE_OF_ZERO.false c.requires in
    plate_is code 50001 _ (record { small = omega arith; low = λ n. omega arith; high = λ n. omega arith })
