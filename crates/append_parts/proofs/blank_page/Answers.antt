-- `blank_page`: 512 bytes of one value.
use mathlib.Core.Path.{refl}
use Rattle.codec.specs.Area.{repeated}
use Rattle.append_parts.proofs.blank_page.Goals as goal

pub returns : goal.returns
unfolding repeated
returns c = refl
