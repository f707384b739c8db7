-- `Pointer::is_live` meets its contract.
use Rattle.skiplist.proofs.Pointer.is_live.Goals as goal

pub returns : goal.returns
returns c = rw c.is_none.ensures
