-- `csv_text::after_end` meets its contract, inside the text and at its end.
use Rattle.std.proofs.Common.{arith}
use Rattle.csv_text.proofs.Places.{end_inside, end_outside, no_end}
use Rattle.csv_text.proofs.after_end.Goals as goal

pub returns-then-at-text : goal.returns-then-at-text
returns-then-at-text c = end_outside _ _ c.if-at-text.true

pub returns-then-is_byte : goal.returns-then-is_byte
returns-then-is_byte c = end_inside c.args.text.now c.args.at (omega arith) (rw (← c.is_byte-else-at-text.ensures, ← c.is_byte.ensures) c.if-is_byte.true)

pub returns-else-is_byte : goal.returns-else-is_byte
returns-else-is_byte c = no_end c.args.text.now c.args.at (omega arith) (rw (← c.is_byte-else-at-text.ensures, ← c.is_byte.ensures) c.if-is_byte.false)
