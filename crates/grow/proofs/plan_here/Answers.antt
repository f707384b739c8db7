-- `grow::plan_here` meets its contract: an entry, no room, a split, a new child.
use mathlib.Core.Path.{◌≡◌, ◌∙◌}
use native.Mathlib.Omega.{arith}
use Rattle.split.specs.Split.{midpoint}
use Rattle.grow.proofs.Stops.{sided, here_entry, here_full, here_split, here_child}
use Rattle.std.proofs.lemmas.Bool.{eq-eqb, ne_eqb}
use Rattle.grow.proofs.plan_here.Goals as goal
use Rattle.grow.proofs.plan_here.Goals.{then-whole, else-whole, then-code-mid, else-code-mid}

pub returns-then-whole-n : goal.returns-then-whole-n
returns-then-whole-n c m s = here_entry _ m s _ _ _ _ c.if-whole-n.true

pub returns-then-buckets-ge-BUCKETS_MOST : goal.returns-then-buckets-ge-BUCKETS_MOST
returns-then-buckets-ge-BUCKETS_MOST c m s = here_full _ m s _ _ _ _ c.if-whole-n.false c.if-buckets-ge-BUCKETS_MOST.true

pub returns-then-whole-2 : goal.returns-then-whole-2
returns-then-whole-2 c m s =
    let mid : c.if-whole.mid ≡ midpoint c.args.n.x c.args.n.y c.args.loads =
    elim c.if-whole.branch [ then-whole w ↦ w.mid-is ∙ w.mid_of-mid.ensures.is | else-whole w ↦ absurd (w.if-whole.false c.if-whole-2.true) ] in
    here_split _ m s _ _ _ _ c.if-whole-n.false c.if-buckets-ge-BUCKETS_MOST.false (eq-eqb _ _ c.if-whole-2.true)
    _ _ _ _ mid
    (sided _ _ _ _
    (λ l. elim c.if-code-mid.branch [ then-code-mid w ↦ w.side-is | else-code-mid w ↦ absurd (omega arith) ])
    (λ l. elim c.if-code-mid.branch [ then-code-mid w ↦ absurd (omega arith) | else-code-mid w ↦ w.side-is ]))

pub returns-else-whole-2 : goal.returns-else-whole-2
returns-else-whole-2 c m s =
    let mid : c.if-whole.mid ≡ c.args.n.mid =
    elim c.if-whole.branch [ then-whole w ↦ absurd (c.if-whole-2.false w.if-whole.true) | else-whole w ↦ w.mid-is ] in
    here_child _ m s _ _ _ _ c.if-buckets-ge-BUCKETS_MOST.false (ne_eqb _ _ c.if-whole-2.false)
    _ _ _ _ mid
    (sided _ _ _ _
    (λ l. elim c.if-code-mid.branch [ then-code-mid w ↦ w.side-is | else-code-mid w ↦ absurd (omega arith) ])
    (λ l. elim c.if-code-mid.branch [ then-code-mid w ↦ absurd (omega arith) | else-code-mid w ↦ w.side-is ]))
