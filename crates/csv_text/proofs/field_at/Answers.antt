-- `csv_text::field_at` meets its contract: a quote, a minus, digits and a quote, one after the other.
use Rattle.csv_text.proofs.FieldRead.{field_read, no_field}
use Rattle.csv_text.proofs.field_at.Goals as goal

pub returns-then-first-end : goal.returns-then-first-end
returns-then-first-end c =
    field_read c.args.signed c.args.text.now c.args.at c.requires c.is_byte-quoted.ensures c.past-from.ensures c.is_byte.ensures
    c.past-first.ensures c.run_at-value.ensures c.is_byte-2.ensures c.past.ensures c.if-first-end.true

pub returns-else-first-end : goal.returns-else-first-end
returns-else-first-end c =
    no_field c.args.signed c.args.text.now c.args.at c.requires c.is_byte-quoted.ensures c.past-from.ensures c.is_byte.ensures
    c.past-first.ensures c.run_at-value.ensures c.is_byte-2.ensures c.if-first-end.false
