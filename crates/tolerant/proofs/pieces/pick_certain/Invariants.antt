-- `tolerant::pieces::pick_certain` meets its contract: the rows picked and those that are left come to the whole.
use lib.ListN.{length}
use Rattle.codec.specs.Area.{splice}
use Rattle.search.specs.Answers.{row_bytes}
use Rattle.tolerance.specs.Inner.Ends.{rows_in_ends}
use Rattle.tolerant.specs.Inner.Rows.{rows_in}
use Rattle.tolerant.proofs.Picking.{Picks}
use Rattle.tolerant.proofs.pieces.pick_certain.Given as goal

abbrev pub invariant-loop-i : goal.invariant-loop-i
invariant-loop-i l =
    Picks l.possible l.rows l.e (splice l.initial.certain 0 (row_bytes (rows_in_ends l.e (rows_in l.possible 0 l.rows)))) (length l.initial.certain) l.certain l.i l.to
