-- `joining::join_set` meets its contract: the lifts gone through and those of the places left come to all.
use Rattle.bitset.specs.Inner.Words.{members}
use Rattle.bitset.specs.Inner.Emptying.{places_left}
use Rattle.lift.specs.Rows.{record_in}
use Rattle.joining.proofs.Lifts.{SetGoes}
use Rattle.joining.proofs.join_set.Given as goal

abbrev pub invariant-loop-p : goal.invariant-loop-p
invariant-loop-p l =
    SetGoes l.nand l.page l.g l.way l.rising l.rows (record_in l.lifts l.tail l.at.first) l.at.count l.initial.free l.initial.area l.initial.j
    (members l.fn.set.words) l.free l.area l.j (places_left l.p-iterator)
