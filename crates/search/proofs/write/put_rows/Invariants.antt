-- `search::write::put_rows` meets its contract: the rows written and those of the places left come to all.
use Rattle.std.proofs.Common.{map, ◌+◌, ◌*◌, length}
use Rattle.codec.specs.Area.{splice}
use Rattle.bitset.specs.Inner.Words.{members}
use Rattle.bitset.specs.Inner.Emptying.{places_left}
use Rattle.lift.specs.Rows.{record_in}
use Rattle.search.specs.Answers.{row_bytes}
use Rattle.search.proofs.Written.{Puts}
use Rattle.search.proofs.write.put_rows.Given as goal

abbrev pub invariant-loop-i : goal.invariant-loop-i
invariant-loop-i l =
    Puts l.lifts l.tail l.g (splice l.initial.area (l.row * 32) (row_bytes (map (record_in l.lifts l.tail l.g.first) (members l.fn.set.words))))
    (length l.initial.area) l.area (places_left l.i-iterator.iter) (l.row + l.i-iterator.count)
