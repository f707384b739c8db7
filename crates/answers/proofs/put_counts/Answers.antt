-- `answers::put_counts` meets its contract, count by count.
use Rattle.std.proofs.Common.{◌∙◌, arith}
use Rattle.answers.proofs.Printing.{count_step, counts_done}
use Rattle.answers.proofs.put_counts.Goals as goal

pub loop-i-preserved : goal.loop-i-preserved
loop-i-preserved c = rw c.put_count.ensures (count_step _ _ c.loop-i.i (omega arith) (omega arith) ∙ c.loop-i.invariant)

pub returns : goal.returns
returns c = counts_done _ _ _ _ c.loop-i.i (omega arith) c.loop-i.invariant
