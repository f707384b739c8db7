-- `is_ready`: a page that is not due need not be erased.
use Rattle.std.proofs.Common.{◌∙◌, ap, not}
use Rattle.segment.proofs.Turns.{ready_due, ready_not}
use Rattle.segment.proofs.is_ready.Goals as goal

pub returns-then-not-is_due : goal.returns-then-not-is_due
returns-then-not-is_due c = ap not c.if-not-is_due.true ∙ ready_not _ _ _ _ _ _ c.is_due.ensures c.if-not-is_due.true

pub returns-else-not-is_due : goal.returns-else-not-is_due
returns-else-not-is_due c = ready_due _ _ _ _ _ _ c.is_due.ensures _ c.if-not-is_due.false c.is_erased.ensures
