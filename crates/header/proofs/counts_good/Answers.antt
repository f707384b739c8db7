-- `counts_good`: a count of 0 is told apart, the rest is the test itself.
use Rattle.header.proofs.Tests.{counts_none, counts_some}
use native.Mathlib.Omega.{arith}
use Rattle.header.proofs.counts_good.Goals as goal

pub returns-then-count-lt1 : goal.returns-then-count-lt1
returns-then-count-lt1 c = counts_none _ _ _ _ c.if-count-lt1.true

pub returns-else-count-lt1 : goal.returns-else-count-lt1
returns-else-count-lt1 c = counts_some _ _ _ _ _ _ (omega arith) c.sections_of-s.ensures c.fragment_of-l.ensures
