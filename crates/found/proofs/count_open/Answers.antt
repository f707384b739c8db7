-- `found::count_open` meets its contract: no lifts, damage, or as many rows as the set has places.
use mathlib.Core.Path.{refl, sym, ap, ◌∙◌}
use Rattle.sweep.specs.Inner.Swept.{none_swept}
use Rattle.found.specs.Inner.Turns.{count_of}
use Rattle.found.proofs.Matched.{open_none, open_counted}
use Rattle.found.proofs.Counts.{counted_bad}
use Rattle.found.proofs.count_open.Goals as goal

pub returns-then-g-eq0 : goal.returns-then-g-eq0
returns-then-g-eq0 c = sym (ap (count_of 0 _) (open_none _ _ _ _ _ c.if-g-eq0.true))

pub returns-in_err-set : goal.returns-in_err-set
returns-in_err-set c =
    c.from_residual.ensures ∙ counted_bad 0 c.args.walked none_swept refl
    ∙ open_counted _ _ _ _ _ c.if-g-eq0.false none_swept c.in_err-set.ensures _ _

pub returns : goal.returns
returns c =
    c.counted_with.ensures ∙ open_counted _ _ _ _ _ c.if-g-eq0.false _ c.in_ok-set.ensures _ _
