-- `grow::child_for` meets its contract.
use native.Mathlib.Omega.{arith}
use Rattle.grow.proofs.Stops.{child_whole, child_none, child_some}
use Rattle.grow.proofs.child_for.Goals as goal
use Rattle.grow.proofs.child_for.Goals.{then-code-mid, else-code-mid}

pub returns-then-mid : goal.returns-then-mid
returns-then-mid c m s = child_whole _ m s _ c.if-mid.true

pub returns-then-child : goal.returns-then-child
returns-then-child c m s =
    child_none _ m s _ c.if-mid.false _
    (λ l. elim c.if-code-mid.branch [ then-code-mid w ↦ w.child-is | else-code-mid w ↦ absurd (omega arith) ])
    (λ l. elim c.if-code-mid.branch [ then-code-mid w ↦ absurd (omega arith) | else-code-mid w ↦ w.child-is ])
    c.if-child.true

pub returns-else-child : goal.returns-else-child
returns-else-child c m s =
    child_some _ m s _ c.if-mid.false _
    (λ l. elim c.if-code-mid.branch [ then-code-mid w ↦ w.child-is | else-code-mid w ↦ absurd (omega arith) ])
    (λ l. elim c.if-code-mid.branch [ then-code-mid w ↦ absurd (omega arith) | else-code-mid w ↦ w.child-is ])
    c.if-child.false
