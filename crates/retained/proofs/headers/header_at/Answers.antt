-- `header_at`: page 31 of the serial's slot.
use Rattle.std.proofs.Common.{ap, ◌∙◌, arith, length}
use Rattle.codec.proofs.Areas.{length_part}
use Rattle.flash.specs.Chip.{page_of}
use Rattle.retained.proofs.headers.header_at.Goals as goal

pub returns : goal.returns
returns c = (
  c.pages_of.ensures ∙ ap (λ t. page_of c.args.nand.now t 31) c.slot_of-slot.ensures.0,
  ap length c.pages_of.ensures ∙ length_part c.args.nand.now _ 512 (omega (arith, c.slot_of-slot.ensures.1, c.requires)),
)
