-- `joining::look::take` meets its contract: segment by segment, until the look ends.
use Rattle.joining.proofs.Taking.{Taking}
use Rattle.joining.proofs.look.take.Given as goal

abbrev pub invariant-loop-i : goal.invariant-loop-i
invariant-loop-i l = Taking l.nand l.page l.g l.way l.s l.initial.free l.fn.from l.free l.i
