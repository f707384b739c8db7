-- `tally::by_plate::tally_set` meets its contract: the lifts counted and those of the places left come to all.
use Rattle.std.proofs.Common.{map}
use Rattle.bitset.specs.Inner.Words.{members}
use Rattle.bitset.specs.Inner.Emptying.{places_left}
use Rattle.lift.specs.Rows.{code_in}
use Rattle.tally.specs.Inner.Turns.{counted_all}
use Rattle.tally.proofs.Tallies.{SetTally}
use Rattle.tally.proofs.by_plate.tally_set.Given as goal

abbrev pub invariant-loop-p : goal.invariant-loop-p
invariant-loop-p l =
    SetTally (code_in l.lifts l.tail l.g.first) l.g.count
    (counted_all l.initial.n (map (code_in l.lifts l.tail l.g.first) (members l.fn.set.words))) (places_left l.p-iterator) l.n
