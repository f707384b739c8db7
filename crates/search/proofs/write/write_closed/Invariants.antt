-- `search::write::write_closed` meets its contract: what is written and what is left come to the whole.
use lib.ListN.{length}
use Rattle.skiplist.specs.Skip.{serials_from}
use Rattle.found.specs.Inner.Turns.{rows_after}
use Rattle.search.specs.Inner.Turns.{written_in}
use Rattle.search.proofs.Written.{WriteGoes}
use Rattle.search.proofs.write.write_closed.Given as goal

abbrev pub invariant-loop-s : goal.invariant-loop-s
invariant-loop-s l =
    let live = serials_from l.oldest in
    WriteGoes l.nand l.slots live l.q (written_in l.initial.area (rows_after l.nand l.slots live l.q l.initial.at)) (length l.initial.area)
    l.area l.at l.end

abbrev pub decreases-loop-s : goal.decreases-loop-s
decreases-loop-s l = l.at.before
