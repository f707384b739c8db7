-- `grow::is_clear` meets its contract: of no write nothing is due.
use mathlib.Core.Path.{refl}
use Rattle.codec.specs.Area.{part, all_ones}
use Rattle.grow.proofs.is_clear.Goals as goal

pub returns-in-None : goal.returns-in-None
unfolding part all_ones
returns-in-None c = rw c.in-None.is refl
