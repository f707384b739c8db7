-- `tolerant::pieces::certain_in` meets its contract: those counted and those of the places left come to the whole.
use Rattle.bitset.specs.Inner.Emptying.{places_left}
use Rattle.tolerant.proofs.Counting.{many_of, Sorts}
use Rattle.tolerant.proofs.pieces.certain_in.Given as goal

abbrev pub invariant-loop-p : goal.invariant-loop-p
invariant-loop-p l = Sorts l.lifts l.tail l.g l.e (many_of l.lifts l.tail l.g l.e l.fn.set) (places_left l.p-iterator) l.n
