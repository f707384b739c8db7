-- `carry_open`: the chip is erased, then the open slot copied.
use mathlib.Core.Path.{refl}
use Rattle.codec.proofs.Areas.{part_from}
use Rattle.carry.proofs.Carrying.{open_put}
use native.Mathlib.Omega.{arith}
use Rattle.carry.proofs.carry_open.Goals as goal

pub returns : goal.returns
returns c =
    open_put c.args.nand.now c.args.to.now _ _ _ c.args.slots c.args.current _ (omega (arith, c.requires))
    c.slot_of-slot.ensures.0 c.erase_chip.ensures (part_from _ _ _ _ refl) c.copy_long.ensures
