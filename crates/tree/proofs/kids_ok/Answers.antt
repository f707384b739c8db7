-- `tree::kids_ok` meets its contract.
use Rattle.tree.proofs.Looked.{kids_whole, kids_split}
use Rattle.tree.proofs.kids_ok.Goals as goal

pub returns-then-mid-eq-NO_MID : goal.returns-then-mid-eq-NO_MID
returns-then-mid-eq-NO_MID c = kids_whole _ _ _ _ _ _ _ c.if-mid-eq-NO_MID.true

pub returns-else-mid-eq-NO_MID : goal.returns-else-mid-eq-NO_MID
returns-else-mid-eq-NO_MID c =
    rw (c.child_ok-else-mid-eq-NO_MID.ensures, c.child_ok.ensures) (kids_split _ _ _ _ _ _ _ c.if-mid-eq-NO_MID.false)
