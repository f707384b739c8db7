-- `empty_section`: 128 zeros.
use mathlib.Core.Path.{refl}
use Rattle.codec.specs.Area.{repeated}
use Rattle.bloom.specs.Bloom.{empty_section}
use Rattle.bloom.proofs.empty_section.Goals as goal

pub returns : goal.returns
unfolding empty_section repeated
returns c = refl
