-- `carried_out`: a close if it is due, a drop if it is due, then the lift.
use mathlib.Core.List.{[]}
use mir.Syntax.{w32}
use mir.ValLaws.{to_z-of_z}
use Rattle.lift.specs.Limits.{load_ok}
use Rattle.grow.specs.Inner.Meaning.{meaning}
use Rattle.store.specs.Calls.{room_world}
use Rattle.store.specs.World.{world}
use Rattle.store.proofs.Appended.{ready_there, droppable_there, droppable_room, ready_room, ready_due, carried_made}
use mathlib.Core.Path.{ap, ◌∙◌}
use Rattle.store.proofs.Grounds.{standing}
use native.Mathlib.Omega.{arith}
use Rattle.store.proofs.append.pieces.carried_out.Goals as goal

pub dropped_first-b-requires : goal.dropped_first-b-requires
dropped_first-b-requires c =
    let a = c.args in
    let st = standing _ _ _ _ c.requires.slots_value.0 in
    let after = world c.room-a.new.nand c.room-a.new.nor c.room-a.result in
    let d = droppable_there after (room_world (world a.nand.now a.nor.now a.s) a.slots (meaning a.p))
    c.room-a.ensures
    (droppable_room a.nand.now a.nor.now a.s a.slots st a.p c.requires.slots_value.1) in
    (c.room-a.auto.nand ∙ st.chips.nand_size, omega (arith, st.chips.least), d.first, d.rising)

pub put-requires : goal.put-requires
put-requires c =
    let a = c.args in
    let st = standing _ _ _ _ c.requires.slots_value.0 in
    let ready = ready_there (world c.room-a.new.nand c.room-a.new.nor c.room-a.result)
    (room_world (world a.nand.now a.nor.now a.s) a.slots (meaning a.p)) a.p
    c.room-a.ensures
    (ready_room a.nand.now a.nor.now a.s a.slots st a.p c.requires.slots_value.1) in
    let t = ready_there (world c.dropped_first-b.new.nand [] c.dropped_first-b.result) _ a.p c.dropped_first-b.ensures
    (ready_due (world c.room-a.new.nand [] c.room-a.result) a.slots a.p ready) in record {
      nand_len = (
        c.dropped_first-b.auto.nand ∙ c.room-a.auto.nand ∙ st.chips.nand_size,
        c.room-a.auto.nor
            ∙ st.chips.nor_size,
        omega (arith, st.chips.least),
        t.first,
      );
      count_le_lifts_most = (t.lifts, t.few, t.fits);
      load_value = ap load_ok (to_z-of_z w32 a.load c.ranges.load) ∙ c.requires.load_value;
    }

pub returns : goal.returns
returns c =
    let a = c.args in
    carried_made (world a.nand.now a.nor.now a.s) _ _ _ _ _ _ _ _ a.slots a.time _ a.load _ (meaning a.p)
    (to_z-of_z w32 a.load c.ranges.load) c.room-a.ensures c.dropped_first-b.ensures
    c.put.ensures
