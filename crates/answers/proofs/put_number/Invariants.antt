-- `answers::put_number` meets its contract. The invariant: what is left to write, written, gives what the whole gives.
use Rattle.std.proofs.Common.{◌≡◌}
use Rattle.codec.specs.Area.{splice}
use Rattle.answers.specs.Printed.{columns}
use Rattle.answers.specs.Inner.Pen.{columns_of}
use Rattle.answers.proofs.put_number.Given as goal

abbrev pub invariant-loop-column : goal.invariant-loop-column
invariant-loop-column l = splice l.s l.at (columns_of l.column l.pen) ≡ splice l.initial.s l.at (columns l.width l.minus l.v)
