-- `joining::look::first_left` meets its contract: segments with no free lift have no rows.
use Rattle.joining.proofs.Segments.{Passed}
use Rattle.joining.proofs.look.first_left.Given as goal

abbrev pub invariant-loop-i : goal.invariant-loop-i
invariant-loop-i l = Passed l.free l.fn.from l.fn.top l.i
