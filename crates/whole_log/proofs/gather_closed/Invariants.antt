-- `whole_log::gather_closed` meets its contract: the segments in hand and those that are left come to the whole.
use Rattle.whole_log.proofs.Turns.{Going}
use Rattle.whole_log.proofs.gather_closed.Given as goal

abbrev pub invariant-loop-s : goal.invariant-loop-s
invariant-loop-s l = Going l.nand l.g l.q l.initial.way l.initial.sets l.initial.at l.way l.sets l.at l.low

abbrev pub decreases-loop-s : goal.decreases-loop-s
decreases-loop-s l = l.at.before
