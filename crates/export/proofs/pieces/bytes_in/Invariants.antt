-- `export::pieces::bytes_in` meets its contract: bytes counted and those of the places left come to the whole.
use Rattle.std.proofs.Common.{length}
use Rattle.bitset.specs.Inner.Emptying.{places_left}
use Rattle.export.proofs.Sizing.{lines_in, Sums}
use Rattle.export.proofs.pieces.bytes_in.Given as goal

abbrev pub invariant-loop-p : goal.invariant-loop-p
invariant-loop-p l = Sums l.lifts l.tail l.g (length (lines_in l.lifts l.tail l.g l.fn.set)) (places_left l.p-iterator) l.n
