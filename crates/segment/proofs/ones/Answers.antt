-- `ones`: 512 bytes of one value.
use mathlib.Core.Path.{refl}
use Rattle.codec.specs.Area.{repeated}
use Rattle.segment.proofs.ones.Goals as goal

pub returns : goal.returns
unfolding repeated
returns c = refl
