-- `tree::entries_in` meets its contract: every entry passed is below the count.
use Rattle.tree.proofs.Looked.{Passed}
use Rattle.tree.proofs.entries_in.Given as goal

abbrev pub invariant-loop-i : goal.invariant-loop-i
invariant-loop-i l = Passed l.s l.count l.i
