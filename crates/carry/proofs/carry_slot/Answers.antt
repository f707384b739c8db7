-- `carry_slot`: pages 0 to 30, then the header behind them.
use mathlib.Core.Path.{refl, ap, ◌∙◌}
use lib.ListN.{length}
use Rattle.codec.proofs.Areas.{length_part, part_from}
use Rattle.carry.proofs.Carrying.{slot_put}
use native.Mathlib.Omega.{arith}
use Rattle.carry.proofs.carry_slot.Goals as goal

pub carried_header-d-requires : goal.carried_header-d-requires
carried_header-d-requires c =
    (ap length c.pages_of-h.ensures ∙ length_part c.args.nand.now _ 512 (omega (arith, c.slot_of-slot.ensures.1, c.requires)), c.requires.3)

pub returns : goal.returns
returns c =
    let slot = c.slot_of-slot.ensures.0 in
    slot_put c.args.form c.args.nand.now c.args.to.now c.args.slots c.args.n c.requires.2 c.requires.0 c.requires.1 _ _ _ _ _ _
    slot c.carried_header-d.ensures c.pages_of-h.ensures (part_from _ _ _ _ refl) c.copy_long.ensures c.program.ensures
