-- `found::count_closed` meets its contract: what is counted and what is left come to the whole.
use Rattle.skiplist.specs.Skip.{serials_from}
use Rattle.found.specs.Inner.Turns.{count_after}
use Rattle.found.proofs.Counts.{CountGoes}
use Rattle.found.proofs.count_closed.Given as goal

abbrev pub invariant-loop-d : goal.invariant-loop-d
invariant-loop-d l =
    let live = serials_from l.oldest in
    CountGoes l.nand l.slots live l.q (count_after l.nand l.slots live l.q l.initial.n l.initial.at) l.initial.at.before l.at l.n

abbrev pub decreases-loop-d : goal.decreases-loop-d
decreases-loop-d l = l.at.before
