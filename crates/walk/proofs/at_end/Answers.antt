-- `walk::at_end` meets its contract.
use mathlib.Core.Path.{ap}
use mathlib.Core.Bool.{Bool, not, ◌||◌}
use Rattle.walk.proofs.at_end.Goals as goal

pub returns : goal.returns
returns c = ap (λ (b : Bool). c.args.c.last || not b) c.is_live.ensures
