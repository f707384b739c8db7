-- `lift::record_of` meets its contract: the test on the place chooses the area.
use mathlib.Core.Path.{ap, ◌∙◌}
use borrow.Author.Tests.{lt-ltb, le-ltb}
use lib.ListN.{length}
use native.Mathlib.Omega.{arith}
use Rattle.codec.proofs.Areas.{length_part}
use Rattle.lift.specs.Rows.{record_in}
use Rattle.lift.proofs.record_of.Goals as goal

pub returns-then-p-first : goal.returns-then-p-first
unfolding record_in
returns-then-p-first c = record {
  is = simp (lt-ltb _ _ c.if-p-first.true) c.row.ensures;
  whole = ap length c.row.ensures ∙ length_part c.args.lifts.now _ 32 (omega arith);
}

pub returns-else-p-first : goal.returns-else-p-first
unfolding record_in
returns-else-p-first c = record {
  is = simp (le-ltb _ _ c.if-p-first.false) c.row-else-p-first.ensures;
  whole = ap length c.row-else-p-first.ensures ∙ length_part c.args.tail.now _ 32 (omega arith);
}
