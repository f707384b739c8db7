-- `each_segment::closed_turn` meets its contract: damage, or the segment's matches with its records in its slot.
use mathlib.Core.Path.{refl}
use Rattle.sweep.specs.Inner.Swept.{none_swept}
use Rattle.found.proofs.Matched.{closed_none}
use Rattle.each_segment.proofs.AtHand.{closed_at_hand}
use Rattle.each_segment.proofs.closed_turn.Goals as goal

pub returns-in_default-clause-damage : goal.returns-in_default-clause-damage
returns-in_default-clause-damage c =
    (refl, closed_none c.args.nand.now c.args.s c.args.q none_swept c.in_default.ensures refl)

pub returns-clause-turn : goal.returns-clause-turn
returns-clause-turn c =
    closed_at_hand c.args.nand.now c.args.s c.args.q c.args.c c.requires _ c.in-Some.ensures refl _
    c.closed_records.ensures
