-- `joining::join_all` meets its contract: segment by segment of the first log.
use native.Mathlib.Omega.{arith}
use Rattle.joining.proofs.Logs.{log_over, log_more}
use Rattle.joining.proofs.join_all.Goals as goal

pub loop-i-preserved : goal.loop-i-preserved
loop-i-preserved c =
    let o = c.join_set-j in
    log_more _ _ _ _ _ _ _ _ _ _ _ _ _ _ _ _ _ _ _ _ c.loop-i.invariant (omega arith) _ c.lifts_of-lifts.ensures _
    c.records_of-at.ensures _ c.set_of-set.ensures _ _ _ o.auto.area o.auto.free o.ensures

pub returns-2 : goal.returns-2
returns-2 c =
    let o = c.join_set-j in
    let e = log_over _ _ _ _ _ _ _ _ _ _ _ _ _ _ _ _ _ _ _ _
    (log_more _ _ _ _ _ _ _ _ _ _ _ _ _ _ _ _ _ _ _ _ c.loop-i.invariant (omega arith) _ c.lifts_of-lifts.ensures _
    c.records_of-at.ensures _ c.set_of-set.ensures _ _ _ o.auto.area o.auto.free o.ensures) (omega arith) in
    record { count_is = e.0; area_is = e.1 }
