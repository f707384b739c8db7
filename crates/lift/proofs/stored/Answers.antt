-- `lift::stored` meets its contract: the sum is not negative and fits.
use mir.Syntax.{w32}
use mir.ValLaws.{to_z-of_z}
use Rattle.lift.proofs.Codes.{within_limits, sum_read}
use native.Mathlib.Omega.{arith}
use Rattle.lift.proofs.stored.Goals as goal

pub overflow_add-result : goal.overflow_add-result
overflow_add-result c =
    let s = within_limits c.args.load c.requires in
    rw (to_z-of_z w32 c.args.load c.ranges.load, s.sum) (record { sfits = omega (arith, s.high) })

pub overflow_cast-result : goal.overflow_cast-result
overflow_cast-result c =
    let s = within_limits c.args.load c.requires in
    rw (sum_read c.args.load c.ranges.load s) (tt, record { fits = omega (arith, s.high) })

pub returns : goal.returns
returns c = rw (sum_read c.args.load c.ranges.load (within_limits c.args.load c.requires))
