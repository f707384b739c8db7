-- `sweep::sweep_tree` meets its contract: what is found so far and what is left to be found is what the whole sweep finds.
use Rattle.std.specs.Prelude.{None}
use Rattle.std.proofs.Common.{◌≡◌, sym, ◌∙◌, rules, arith}
use lib.Count.{trailing_le}
use borrow.Author.Tests.{eqb-true}
use Rattle.sweep.proofs.Mask.{due_root, lowest_rises}
use Rattle.sweep.proofs.Visits.{turn_first, turn_bare, turn_last, turn_read}
use Rattle.sweep.proofs.sweep_tree.Goals as goal

pub returns-then-g-eq0 : goal.returns-then-g-eq0
returns-then-g-eq0 c =
    let b = turn_bare _ _ _ _ _ _ c.empty-none.ensures c.if-g-eq0.true in
    record { found = b.0; pages = b.1 }

pub loop-t-init : goal.loop-t-init
loop-t-init c =
    let f = turn_first _ _ _ _ _ _ c.empty-none.ensures in (
      λ j e. let z = eqb-true j 0 (sym (due_root j) ∙ e) in omega (arith, z, c.if-g-eq0.false),
      f.0,
      f.1,
    )

pub visit-requires : goal.visit-requires
visit-requires c =
    record { held = c.requires; due = (c.loop-t-test.true, c.loop-t.invariant.0) }

pub returns-in_err-t-clause-found : goal.returns-in_err-t-clause-found
returns-in_err-t-clause-found c =
    let damage : c.from_residual.result ≡ None = search rules in
    rw damage (c.in_err-t.ensures.leads ∙ c.loop-t.invariant.1)

pub loop-t-smaller : goal.loop-t-smaller
loop-t-smaller c =
    let r = lowest_rises c.loop-t.t.due c.loop-t-test.true (search rules) c.in_ok-t.t.due (search rules) c.in_ok-t.ensures.left.1 in
    omega (arith, r, trailing_le 64 c.in_ok-t.t.due)

pub loop-t-preserved : goal.loop-t-preserved
loop-t-preserved c =
    let e = c.in_ok-t.ensures in
    (e.left.0, e.leads ∙ c.loop-t.invariant.1, λ j. e.pages j ∙ c.loop-t.invariant.2 j)

pub returns : goal.returns
returns c =
    let a = c.args in
    let t = c.loop-t.t in
    let over : t.due ≡ 0 = omega (arith, c.loop-t-test.false) in
    record {
      found = turn_last _ _ _ _ _ t over ∙ c.loop-t.invariant.1;
      pages = turn_read a.tree.now a.lifts.now a.tail.now a.g a.r t over (search rules) c.requires.few c.loop-t.invariant.2;
    }
