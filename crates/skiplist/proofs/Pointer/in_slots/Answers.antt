-- `Pointer::in_slots` meets its contract.
use Rattle.skiplist.proofs.Pointer.in_slots.Goals as goal

pub returns : goal.returns
returns c = rw c.is_none.ensures
