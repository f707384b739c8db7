-- `pointer_good`: the test itself.
use Rattle.header.proofs.Tests.{pointer_tests}
use Rattle.header.proofs.pointer_good.Goals as goal

pub returns : goal.returns
returns c = pointer_tests _ _ _ _ c.time_ok.ensures c.in_slots.ensures
