-- `lift_text::put_heading` meets its contract: the heading, and CRLF after it.
use Rattle.lift_text.proofs.Before.{heading_put}
use Rattle.lift_text.proofs.put_heading.Goals as goal

pub returns : goal.returns
returns c =
    rw c.copy.ensures (heading_put _ c.requires)
