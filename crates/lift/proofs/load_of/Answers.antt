-- `lift::load_of` meets its contract: a number below 2 ^ 31 is its own signed reading.
use mir.Syntax.{w32}
use mir.ValLaws.{to_z-of_z, to_z_pos}
use Rattle.lift.proofs.Codes.{load_fits}
use native.Mathlib.Omega.{arith}
use Rattle.lift.proofs.load_of.Goals as goal

pub overflow_sub-result : goal.overflow_sub-result
overflow_sub-result c = rw (to_z_pos w32 c.args.code (omega arith)) (load_fits c.args.code c.requires)

pub returns : goal.returns
returns c = rw (to_z_pos w32 c.args.code (omega arith)) (to_z-of_z w32 _ (load_fits c.args.code c.requires))
