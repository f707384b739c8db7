-- `tolerance::narrowed` meets its contract: both loads are within their limits, so d more fits.
use Prim.Native.Nat.{◌-◌}
use native.Mathlib.Omega.{arith}
use mathlib.Core.Path.{◌≡◌, ap, ◌∙◌}
use mir.Syntax.{w32}
use mir.ValLaws.{to_z-of_z}
use Rattle.lift.specs.Limits.{stored}
use Rattle.lift.proofs.Codes.{within_limits}
use Rattle.tolerance.proofs.narrowed.Goals as goal

pub overflow_add-result : goal.overflow_add-result
overflow_add-result c =
    let e : c.stored.result ≡ stored c.args.k1 = c.stored.ensures ∙ ap stored (to_z-of_z w32 c.args.k1 c.ranges.k1) in
    omega (arith, e, within_limits c.args.k1 c.requires.0)
