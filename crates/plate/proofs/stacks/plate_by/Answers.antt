-- `plate::stacks::plate_by` meets its contract: by the first end that the load is not past.
use mathlib.Core.Path.{◌∙◌}
use Rattle.plate.proofs.Lookups.{first_end}
use Rattle.plate.proofs.stacks.plate_by.Goals as goal

pub returns : goal.returns
returns c = c.unwrap_or.ensures ∙ rw c.first_end.ensures (first_end c.args.ends.now c.args.load)
