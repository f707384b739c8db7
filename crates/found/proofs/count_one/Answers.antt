-- `found::count_one` meets its contract: damage, or as many rows as the segment's set has places, and its pages.
use mathlib.Core.Bool.{true}
use mathlib.Core.Path.{refl, ap, ◌∙◌}
use Rattle.sweep.specs.declared.Sweep.{Sweep}
use Rattle.sweep.specs.Inner.Swept.{none_swept}
use Rattle.visit.specs.Visit.{tree_read}
use Rattle.found.specs.declared.Pages.{Pages}
use Rattle.found.specs.Inner.Turns.{counted_with, with_pages}
use Rattle.found.proofs.Matched.{closed_counted}
use Rattle.found.proofs.Counts.{counted_bad, counted_read}
use Rattle.found.proofs.count_one.Goals as goal

pub returns-in_err-m : goal.returns-in_err-m
returns-in_err-m c =
    let a = c.args in
    c.from_residual.ensures
    ∙ counted_bad a.n.total (with_pages a.n.pages (record { bloom = a.bloom; tree = tree_read a.nand.now a.s a.q })) none_swept refl
    ∙ closed_counted _ _ _ none_swept c.in_err-m.ensures.found _ _

pub returns : goal.returns
returns c =
    let o = c.ones in
    let a = c.args in
    let m : Sweep = record { good = true; set = c.in_ok-m.m.set } in
    c.counted_with.ensures ∙ ap (λ (x : Pages). counted_with a.n.total x m) c.pages_with-pages.ensures
    ∙ counted_read a.n.total a.n.pages a.bloom m _ _ (λ e. o.ensures.0 ∙ c.in_ok-m.ensures.pages)
    ∙ closed_counted _ _ _ m c.in_ok-m.ensures.found _ _
