-- `split::bring` meets its contract: a range of one number, or the clamp.
use borrow.Author.Tests.{le-leb, lt-leb}
use Rattle.split.proofs.Offset.{bring_none, bring_some}
use Rattle.split.proofs.bring.Goals as goal

pub returns-then-y-x : goal.returns-then-y-x
returns-then-y-x c = rw (bring_none 3000000 _ _ _ (le-leb _ _ c.if-y-x.true))

pub returns-else-y-x : goal.returns-else-y-x
returns-else-y-x c =
    rw (
      c.min.ensures,
      c.max.ensures,
      bring_some 3000000 _ _ _ (lt-leb _ _ c.if-y-x.false),
    )
