-- `export::pieces::put_lines` meets its contract: lines written and those of the places left are the whole.
use Rattle.last_place.specs.Inner.Last.{places_below}
use Rattle.export.proofs.Sizing.{lines_in}
use Rattle.export.proofs.Writing.{Puts}
use Rattle.export.proofs.pieces.put_lines.Given as goal

abbrev pub invariant-loop-p : goal.invariant-loop-p
invariant-loop-p l = Puts l.lifts l.tail l.g l.initial.area l.end (lines_in l.lifts l.tail l.g l.fn.set) (places_below l.p-iterator) l.area l.to
