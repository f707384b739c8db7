use Rattle.codec.proofs.Areas.{part_from}
use mathlib.Core.Path.{refl}
use Rattle.flash.proofs.pages_of.Goals as goal

pub returns : goal.returns
returns c = rw (← c.page_at-a.ensures) (part_from _ _ _ _ refl)
