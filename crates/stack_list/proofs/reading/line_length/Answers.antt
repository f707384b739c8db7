-- `stack_list::reading::line_length` meets its contract: to the line feed, or to the text's end.
use Rattle.std.proofs.Common.{◌∙◌}
use Rattle.stack_list.proofs.Cut.{feed_place}
use Rattle.stack_list.proofs.reading.line_length.Goals as goal

pub returns : goal.returns
returns c = c.unwrap_or.ensures ∙ rw c.line_feed_in.ensures (feed_place c.args.text.now)
