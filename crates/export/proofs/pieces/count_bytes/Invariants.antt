-- `export::pieces::count_bytes` meets its contract: what is counted and what is left come to the whole.
use Prim.Native.Nat.{◌+◌}
use Rattle.skiplist.specs.Skip.{serials_from}
use Rattle.each_segment.specs.Inner.Turns.{turns_left, rows_left}
use Rattle.export.proofs.Sizing.{Sizes}
use Rattle.export.proofs.pieces.count_bytes.Given as goal

abbrev pub invariant-loop-turn : goal.invariant-loop-turn
invariant-loop-turn l =
    Sizes l.nand l.g.slots (serials_from l.g.oldest) l.q l.page
    (rows_left l.nand l.g.slots (serials_from l.g.oldest) l.q l.page l.initial.turn) (l.g.current + 1) l.turn l.bytes

abbrev pub decreases-loop-turn : goal.decreases-loop-turn
decreases-loop-turn l = turns_left l.turn
