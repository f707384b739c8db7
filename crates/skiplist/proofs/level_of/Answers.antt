-- `level_of` meets its contract. Assumes nothing.
use Rattle.std.proofs.Common.{arith}
use Rattle.skiplist.specs.Skip.{level_of}
use Rattle.skiplist.proofs.level_of.Goals as goal

pub returns : goal.returns
unfolding level_of
returns c = (omega arith, omega arith, omega arith)
