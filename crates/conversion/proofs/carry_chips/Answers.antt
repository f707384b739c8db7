-- `carry_chips`: NAND, and NOR as it is.
use mathlib.Core.Path.{◌∙◌}
use Rattle.codec.proofs.Areas.{splice_all}
use Rattle.carry.specs.Carried.{nand_into}
use Rattle.conversion.proofs.carry_chips.Goals as goal

pub returns : goal.returns
unfolding nand_into
returns c =
    (c.carry_nand.ensures, c.copy_long.ensures ∙ splice_all _ _ c.requires.5)
