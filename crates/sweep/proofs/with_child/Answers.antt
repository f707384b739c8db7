-- `sweep::with_child` meets its contract.
use Rattle.sweep.proofs.Mask.{child_none, child_left, child_taken}
use Rattle.sweep.proofs.with_child.Goals as goal

pub returns-then-c-eq-NO_CHILD : goal.returns-then-c-eq-NO_CHILD
returns-then-c-eq-NO_CHILD c = let a = c.args in child_none a.due a.c a.taken c.if-c-eq-NO_CHILD.true

pub power-requires : goal.power-requires
power-requires c = c.requires c.if-c-eq-NO_CHILD.false

pub returns-then-taken : goal.returns-then-taken
returns-then-taken c = rw c.power.ensures (child_taken _ _ _ c.if-c-eq-NO_CHILD.false c.if-taken.true)

pub returns : goal.returns
returns c = let a = c.args in child_left a.due a.c a.taken c.if-taken.false
