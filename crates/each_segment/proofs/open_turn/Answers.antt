-- `each_segment::open_turn` meets its contract: no lifts, damage, or the matches of those that it has.
use mathlib.Core.Path.{refl}
use Rattle.sweep.specs.Inner.Swept.{none_swept}
use Rattle.found.proofs.Matched.{open_damage}
use Rattle.each_segment.proofs.AtHand.{open_at_hand, empty_at_hand}
use Rattle.each_segment.proofs.open_turn.Goals as goal

pub returns-then-g-eq0-clause-turn : goal.returns-then-g-eq0-clause-turn
returns-then-g-eq0-clause-turn c =
    empty_at_hand c.args.nand.now c.args.nor.now c.args.page.now c.args.g c.args.q c.args.c c.requires.log_sound c.requires.page_len _
    c.slot_of-slot.ensures.0 _ c.open_records-records.ensures c.if-g-eq0.true _ c.empty.ensures

pub returns-in_default-clause-damage : goal.returns-in_default-clause-damage
returns-in_default-clause-damage c = (
  refl,
  open_damage c.args.nand.now c.args.nor.now c.args.page.now c.args.g c.args.q c.if-g-eq0.false none_swept c.in_default.ensures refl,
)

pub returns-clause-turn : goal.returns-clause-turn
returns-clause-turn c =
    open_at_hand c.args.nand.now c.args.nor.now c.args.page.now c.args.g c.args.q c.args.c c.requires.log_sound c.requires.page_len _
    c.slot_of-slot.ensures.0 _ c.open_records-records.ensures c.if-g-eq0.false _ c.in-Some.ensures refl
