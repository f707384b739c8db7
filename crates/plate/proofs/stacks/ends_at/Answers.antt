-- `plate::stacks::ends_at` meets its contract: each table is the rule, computed down the stack.
use mathlib.Core.Path.{refl}
use Rattle.plate.specs.Carried.{carried}
use Rattle.plate.proofs.Ends.{running, lent_at, tables_of}
use Rattle.plate.proofs.stacks.ends_at.Goals as goal

pub returns : goal.returns
unfolding running
returns c = rw lent_at (tables_of _ carried refl c.args.place c.requires)
