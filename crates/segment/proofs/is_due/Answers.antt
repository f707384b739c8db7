-- `is_due`: by the kind of the page.
use mathlib.Core.Path.{◌∙◌}
use Rattle.segment.proofs.Tests.{due_lifts, due_holds, due_last}
use Rattle.segment.proofs.is_due.Goals as goal

pub returns-then-p-lt-TREE_FIRST : goal.returns-then-p-lt-TREE_FIRST
returns-then-p-lt-TREE_FIRST c = due_lifts _ _ _ c.if-p-lt-TREE_FIRST.true

pub returns-then-p-lt-BLOOM_FIRST : goal.returns-then-p-lt-BLOOM_FIRST
returns-then-p-lt-BLOOM_FIRST c = c.holds_bucket.ensures ∙ due_holds _ _ _ c.if-p-lt-TREE_FIRST.false c.if-p-lt-BLOOM_FIRST.true

pub returns-else-p-lt-BLOOM_FIRST : goal.returns-else-p-lt-BLOOM_FIRST
returns-else-p-lt-BLOOM_FIRST c = rw c.sections_of.ensures (due_last _ _ _ c.if-p-lt-TREE_FIRST.false c.if-p-lt-BLOOM_FIRST.false)
