-- `tally::by_plate::tally_closed` meets its contract: what is counted and what is left come to the whole.
use Rattle.skiplist.specs.Skip.{serials_from}
use Rattle.found.specs.Inner.Turns.{rows_after}
use Rattle.tally.specs.Inner.Turns.{tally_of}
use Rattle.tally.proofs.PlateTurns.{TallyGoes}
use Rattle.tally.proofs.by_plate.tally_closed.Given as goal

abbrev pub invariant-loop-s : goal.invariant-loop-s
invariant-loop-s l =
    let live = serials_from l.oldest in
    TallyGoes l.nand l.slots live l.q (tally_of l.initial.counts (rows_after l.nand l.slots live l.q l.initial.at)) l.initial.at.before l.at l.counts

abbrev pub decreases-loop-s : goal.decreases-loop-s
decreases-loop-s l = l.at.before
