-- `codec::copy` meets its contract. Assumes nothing.
use Rattle.std.proofs.Common.{refl}
use Rattle.codec.proofs.Loops.{back}
use Rattle.codec.proofs.copy.Goals as goal

pub returns : goal.returns
returns c = back _ _ _ _ _ c.copy_from_slice.ensures.after refl
