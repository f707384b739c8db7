-- `export::pieces::write_lines` meets its contract: lines written and rows left are the whole.
use Prim.Native.Nat.{◌+◌}
use Rattle.skiplist.specs.Skip.{serials_from}
use Rattle.export.proofs.Writing.{WritesOn, rows_next, turns_next}
use Rattle.export.proofs.pieces.write_lines.Given as goal

abbrev pub invariant-loop-turn : goal.invariant-loop-turn
invariant-loop-turn l =
    WritesOn l.nand l.g.slots (serials_from l.g.oldest) l.q l.page
    (rows_next l.nand l.g.slots (serials_from l.g.oldest) l.q l.page l.initial.turn) (l.g.current + 1) l.initial.area
    l.end l.turn l.area l.to

abbrev pub decreases-loop-turn : goal.decreases-loop-turn
decreases-loop-turn l = turns_next l.turn
