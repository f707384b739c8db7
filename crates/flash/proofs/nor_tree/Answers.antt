use Rattle.codec.proofs.Areas.{part_from}
use mathlib.Core.Path.{refl}
use Rattle.flash.proofs.nor_tree.Goals as goal

pub returns : goal.returns
returns c = part_from _ 0 4608 4608 refl
