-- `loads::put_load` meets its contract: the four bytes of its bits.
use Rattle.std.proofs.Common.{◌≡◌, ap, ◌∙◌, ℕ}
use native.Mathlib.Omega.{arith}
use mir.Syntax.{w32}
use mir.ValLaws.{to_z-of_z}
use Rattle.std.proofs.lemmas.Grind.{common_steps}
use Rattle.codec.specs.Area.{splice}
use Rattle.codec.specs.Number.{bytes}
use Rattle.loads.specs.Signed.{unsigned, load_bytes}
use Rattle.loads.proofs.Signs.{unsigned_is}
use Rattle.loads.proofs.put_load.Goals as goal

pub returns : goal.returns
unfolding load_bytes
returns c =
    let load = to_z-of_z w32 c.args.load c.ranges.load in
    let bits : c.cast_unsigned.result ≡ unsigned c.args.load = c.cast_unsigned.ensures ∙ unsigned_is _ ∙ ap unsigned load in
    rw c.put_u32.ensures (ap (λ (n : ℕ). splice c.args.b.now c.args.at (bytes 4 n)) (grind (arith, common_steps, bits)))
