-- `answers::put_number` meets its contract, column by column from the last.
use Rattle.std.proofs.Common.{ap, ◌∙◌, arith}
use Rattle.codec.specs.Area.{splice}
use Rattle.answers.proofs.Justified.{pen_written}
use Rattle.answers.proofs.Printing.{column_step, columns_done}
use Rattle.answers.proofs.put_number.Goals as goal

pub loop-column-init : goal.loop-column-init
loop-column-init c = ap (splice _ _) (pen_written _ _ _)

pub loop-column-preserved : goal.loop-column-preserved
loop-column-preserved c =
    rw (c.next-pen.ensures, c.byte.ensures)
    (column_step _ _ c.loop-column.column _ c.loop-column-test.true (omega arith) ∙ c.loop-column.invariant)

pub returns : goal.returns
returns c = columns_done _ _ _ _ _ c.loop-column-test.false c.loop-column.invariant
