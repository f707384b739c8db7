-- `csv_text::heading_of` meets its contract: the header's bytes, and a line's end behind them.
use Rattle.csv_text.proofs.Headings.{no_bytes, heading_after}
use Rattle.csv_text.proofs.heading_of.Goals as goal

pub returns-then-starts_with : goal.returns-then-starts_with
returns-then-starts_with c = heading_after _ _ c.starts_with.ensures.value c.if-starts_with.true _ c.after_end.ensures

pub returns-else-starts_with : goal.returns-else-starts_with
returns-else-starts_with c = no_bytes _ _ c.starts_with.ensures.value c.if-starts_with.false
