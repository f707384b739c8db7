-- `tolerant::pieces::count_both` meets its contract: what is counted and what is left come to the whole.
use Prim.Native.Nat.{◌+◌}
use Rattle.skiplist.specs.Skip.{serials_from}
use Rattle.each_segment.specs.Inner.Turns.{turns_left, rows_left}
use Rattle.tolerant.proofs.Counting.{Counts}
use Rattle.tolerant.proofs.pieces.count_both.Given as goal

abbrev pub invariant-loop-turn : goal.invariant-loop-turn
invariant-loop-turn l =
    Counts l.nand l.g.slots (serials_from l.g.oldest) l.q l.page l.e
    (rows_left l.nand l.g.slots (serials_from l.g.oldest) l.q l.page l.initial.turn) (l.g.current + 1) l.turn l.certain l.possible

abbrev pub decreases-loop-turn : goal.decreases-loop-turn
decreases-loop-turn l = turns_left l.turn
