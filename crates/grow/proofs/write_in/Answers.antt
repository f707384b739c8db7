-- `grow::write_in` meets its contract.
use native.Mathlib.Omega.{arith}
use Rattle.tree.proofs.Starts.{bucket_start_lem}
use Rattle.grow.proofs.write_in.Goals as goal

pub overflow_add-at : goal.overflow_add-at
overflow_add-at c = omega (arith, c.start_of.ensures, bucket_start_lem c.args.b.0)

pub returns : goal.returns
returns c = rw c.start_of.ensures
