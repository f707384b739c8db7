-- `page_of`: the part from the page buffer to the Bloom buffer.
use mathlib.Core.Path.{refl}
use Rattle.codec.proofs.Areas.{part_from}
use Rattle.state_bytes.specs.StateBytes.{state_as, state_in}
use Rattle.area_reads.proofs.page_of.Goals as goal

pub returns : goal.returns
unfolding state_in state_as
returns c = part_from _ 127 639 512 refl
