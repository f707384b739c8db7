-- `tolerance::widened` meets its contract: each end is d away from its load, or the load limit.
use mathlib.Core.Path.{◌≡◌, ap, ◌∙◌}
use Prim.Native.Nat.{◌+◌, ◌≤◌, ◌<◌}
use native.Mathlib.Omega.{arith}
use mir.Syntax.{w32}
use mir.ValLaws.{to_z-of_z}
use borrow.Author.Tests.{lt-ltb, le-ltb, le-leb, lt-leb}
use Rattle.std.proofs.lemmas.Grind.{common_steps}
use Rattle.lift.specs.Limits.{stored}
use Rattle.lift.proofs.Codes.{within_limits}
use Rattle.tolerance.specs.Tolerance.{low_end}
use Rattle.tolerance.proofs.ByEnds.{low_end_code, high_end_code}
use Rattle.tolerance.proofs.widened.Goals as goal

pub overflow_add-stored : goal.overflow_add-stored
overflow_add-stored c =
    let e : c.stored-2.result ≡ stored c.args.k2 = c.stored-2.ensures ∙ ap stored (to_z-of_z w32 c.args.k2 c.ranges.k2) in
    omega (arith, e, within_limits c.args.k2 c.requires.1)

pub returns-clause-low : goal.returns-clause-low
returns-clause-low c =
    let first : c.stored.result ≡ stored c.args.k1 = c.stored.ensures ∙ ap stored (to_z-of_z w32 c.args.k1 c.ranges.k1) in
    let f = low_end_code c.args.k1 c.args.d c.requires.0 in
    rw f (grind (arith, common_steps))

pub returns-clause-high : goal.returns-clause-high
returns-clause-high c =
    let e : c.stored-2.result ≡ stored c.args.k2 = c.stored-2.ensures ∙ ap stored (to_z-of_z w32 c.args.k2 c.ranges.k2) in
    rw (high_end_code c.args.k2 c.args.d c.requires.1) (grind (arith, common_steps))
