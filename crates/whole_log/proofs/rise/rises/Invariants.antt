-- `whole_log::rise::rises` meets its contract: segment by segment, behind the last time.
use Rattle.whole_log.proofs.Rising.{RisesTo}
use Rattle.whole_log.proofs.rise.rises.Given as goal

abbrev pub invariant-loop-i : goal.invariant-loop-i
invariant-loop-i l = RisesTo l.nand l.page l.g l.way l.sets l.low l.i l.last
