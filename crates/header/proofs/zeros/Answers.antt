-- `zeros`: 512 bytes of one value.
use mathlib.Core.Path.{refl}
use Rattle.codec.specs.Area.{repeated}
use Rattle.header.proofs.zeros.Goals as goal

pub returns : goal.returns
unfolding repeated
returns c = refl
