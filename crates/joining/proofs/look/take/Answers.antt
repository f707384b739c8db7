-- `joining::look::take` meets its contract: segment by segment, until the look ends.
use mathlib.Core.Path.{refl, sym, ap, ◌∙◌}
use native.Mathlib.Omega.{arith}
use Rattle.joining.specs.Inner.Looking.{taken_at, ends_at, ends, taken_of, left_of, Looked}
use Rattle.joining.proofs.Taking.{fit_at, segment_looked, taking_begun, taking_over, taking_on, taking_found, taking_late}
use Rattle.whole_log.specs.Inner.Held.{places_in}
use Rattle.joining.proofs.look.take.Goals.{After-look_in-k}
use Rattle.joining.proofs.look.take.Goals as goal

-- the look through the segment's set
looked : (c : After-look_in-k) → let a = c.args in
    let fit = fit_at a.nand.now a.page.now a.g a.way.now a.s c.loop-i.i in
    let ps = places_in c.loop-i.free c.loop-i.i in
    Looked a.s.rising fit (left_of a.s.rising fit ps) (taken_of a.s.rising fit ps) (ends a.s.rising fit ps) c.look_in-k.result
looked c =
    let a = c.args in
    segment_looked a.nand.now a.page.now a.g a.way.now a.s c.loop-i.free c.loop-i.i _ c.lifts_of-lifts.ensures _ c.records_of-at.ensures _ refl _
    c.look_in-k.ensures

pub loop-i-init : goal.loop-i-init
loop-i-init c = taking_begun _ _ _ _ _ _ _ c.requires.readable_from

pub returns-in-Found : goal.returns-in-Found
returns-in-Found c =
    let k = looked (goal.at.returns-in-Found c).After-look_in-k in
    taking_found _ _ _ _ _ _ _ c.requires.room.0 _ _ c.loop-i.invariant (omega arith) _ k.left_is (sym k.last_is ∙ ap ends_at c.in-Found.is)
    c.requires.readable_from _ (sym (ap taken_at c.in-Found.is) ∙ k.taken_is)

pub returns-in-Late : goal.returns-in-Late
returns-in-Late c =
    let k = looked (goal.at.returns-in-Late c).After-look_in-k in
    taking_late _ _ _ _ _ _ _ c.requires.room.0 _ _ c.loop-i.invariant (omega arith) _ k.left_is (sym k.last_is ∙ ap ends_at c.in-Late.is)
    c.requires.readable_from (sym (ap taken_at c.in-Late.is) ∙ k.taken_is)

pub loop-i-preserved : goal.loop-i-preserved
loop-i-preserved c =
    let k = looked (goal.at.loop-i-preserved c).After-look_in-k in
    taking_on _ _ _ _ _ _ _ c.requires.room.0 _ _ c.loop-i.invariant (omega arith) _ k.left_is (sym k.last_is ∙ ap ends_at c.in-Through.is)

pub returns-in-Through : goal.returns-in-Through
returns-in-Through c =
    let k = looked (goal.at.returns-in-Through c).After-look_in-k in
    taking_over _ _ _ _ _ _ _ _ _
    (taking_on _ _ _ _ _ _ _ c.requires.room.0 _ _ c.loop-i.invariant (omega arith) _ k.left_is (sym k.last_is ∙ ap ends_at c.in-Through.is))
    (omega arith) c.requires.readable_from
