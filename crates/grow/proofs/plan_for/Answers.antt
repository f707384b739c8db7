-- `grow::plan_for` meets its contract.
use mathlib.Core.Path.{◌∙◌}
use Rattle.grow.proofs.Steps.{plan_none, plan_full, plan_open, plan_fits}
use Rattle.grow.proofs.plan_for.Goals as goal

pub returns-then-count-eq0 : goal.returns-then-count-eq0
returns-then-count-eq0 c = record { is = plan_none _ _ _ _ _ c.if-count-eq0.true; fits = tt }

pub returns-then-count-eq-LIFTS_MOST : goal.returns-then-count-eq-LIFTS_MOST
returns-then-count-eq-LIFTS_MOST c = record { is = plan_full _ _ _ _ _ c.if-count-eq0.false c.if-count-eq-LIFTS_MOST.true; fits = tt }

pub returns : goal.returns
returns c =
    let e = c.descend.ensures ∙ plan_open _ _ _ _ _ c.if-count-eq0.false c.if-count-eq-LIFTS_MOST.false in record { is = e; fits = plan_fits _ _ _ _ _ c.descend.result e }
