-- `kept::keep_both` meets its contract: two numbers side by side, or the area as it was.
use mathlib.Core.Path.{sym, ◌∙◌}
use Rattle.kept.proofs.Kept.{kept_new, kept_old, two_kept}
use Rattle.kept.proofs.keep_both.Goals as goal

pub returns-then-number-eq0 : goal.returns-then-number-eq0
returns-then-number-eq0 c =
    two_kept _ _ _ _ _ c.requires c.put_u64.ensures c.put_u64-then-number-eq0.ensures ∙ sym (kept_new _ _ _ c.if-number-eq0.true)

pub returns-else-number-eq0 : goal.returns-else-number-eq0
returns-else-number-eq0 c = sym (kept_old _ _ _ c.if-number-eq0.false)
