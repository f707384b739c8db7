-- `whole_log::rise::rises` meets its contract: segment by segment, behind the last time.
use mathlib.Core.Path.{refl}
use native.Mathlib.Omega.{arith}
use Rattle.whole_log.proofs.Rising.{rises_on, rises_over}
use Rattle.whole_log.proofs.rise.rises.Goals as goal

pub loop-i-preserved : goal.loop-i-preserved
loop-i-preserved c =
    rises_on _ _ _ _ _ _ _ (omega arith) _ c.loop-i.invariant _ c.lifts_of-pages.ensures _ refl _ c.records_of-at.ensures _ c.in-Some.ensures

pub returns : goal.returns
returns c = λ t. rises_over _ _ _ _ _ _ _ (omega arith) _ c.loop-i.invariant

pub returns-in-Some : goal.returns-in-Some
returns-in-Some c =
    λ t. rises_over _ _ _ _ _ _ _ (omega arith) _
    (rises_on _ _ _ _ _ _ _ (omega arith) _ c.loop-i.invariant _ c.lifts_of-pages.ensures _ refl _ c.records_of-at.ensures _ c.in-Some.ensures)
