-- `joining::join_all` meets its contract: segment by segment of the first log.
use Rattle.joining.proofs.Logs.{LogGoes}
use Rattle.joining.proofs.join_all.Given as goal

abbrev pub invariant-loop-i : goal.invariant-loop-i
invariant-loop-i l =
    LogGoes l.nand1 l.nor1 l.page1 l.g1 l.q l.way1 l.fn.low1 l.nand2 l.page2 l.g2 l.way2 l.rising l.rows l.initial.free l.initial.area (record { from = l.fn.low2; count = 0 }) l.free l.area l.j l.i
