-- `split::overlap` meets its contract: its tests are those of the definition, as they fall out on offset numbers.
use Rattle.lift.proofs.Differences.{lt_offset, le_offset}
use Rattle.split.specs.Split.{overlap}
use Rattle.split.proofs.overlap.Goals as goal

pub returns-then-x-l : goal.returns-then-x-l
unfolding overlap
returns-then-x-l c = simp (lt_offset 3000000, le_offset 3000000, c.if-x-l.true)

pub returns-then-l-x : goal.returns-then-l-x
unfolding overlap
returns-then-l-x c = simp (lt_offset 3000000, le_offset 3000000, c.if-x-l.false, c.if-l-x.true)

pub returns-then-l-x-2 : goal.returns-then-l-x-2
unfolding overlap
returns-then-l-x-2 c = simp (lt_offset 3000000, le_offset 3000000, c.if-x-l.false, c.if-l-x.false, c.if-l-x-2.true)

pub returns-then-x-l-2 : goal.returns-then-x-l-2
unfolding overlap
returns-then-x-l-2 c =
    simp (
      lt_offset 3000000,
      le_offset 3000000,
      c.if-x-l.false,
      c.if-l-x.false,
      c.if-l-x-2.false,
      c.if-x-l-2.true,
    )

pub returns-else-x-l-2 : goal.returns-else-x-l-2
unfolding overlap
returns-else-x-l-2 c =
    simp (
      lt_offset 3000000,
      le_offset 3000000,
      c.if-x-l.false,
      c.if-l-x.false,
      c.if-l-x-2.false,
      c.if-x-l-2.false,
    )
