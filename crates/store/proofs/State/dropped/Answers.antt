-- `dropped`: the slot of the oldest serial is erased.
use mathlib.Core.Path.{refl}
use Rattle.store.specs.World.{without_oldest}
use Rattle.store.proofs.State.dropped.Goals as goal

pub returns : goal.returns
unfolding without_oldest
returns c =
    (rw (← c.slot_of-slot.ensures.0) c.erase_slot.ensures, refl)
