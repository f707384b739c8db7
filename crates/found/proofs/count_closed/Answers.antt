-- `found::count_closed` meets its contract: what is counted and what is left come to the whole.
use mathlib.Core.Path.{◌≡◌, sym, ◌∙◌}
use Prim.Native.Nat.{◌≤◌}
use Rattle.skiplist.specs.Skip.{serials_from}
use Rattle.found.proofs.Counts.{goes_end, goes_damage, goes_pass, goes_broken, goes_visit}
use Rattle.found.proofs.Falling.{pass_facts, visit_facts}
use borrow.Author.Rules.{rules}
use Rattle.found.proofs.count_closed.Goals as goal

pub returns-in-End : goal.returns-in-End
returns-in-End c =
    goes_end _ _ _ _ _ _ c.requires.nand_len.0 _ _ c.loop-d.invariant (sym c.one_on-step.ensures.step ∙ c.in-End.is)

pub returns-in-Damage : goal.returns-in-Damage
returns-in-Damage c =
    goes_damage _ _ _ _ _ _ c.requires.nand_len.0 _ _ c.loop-d.invariant (sym c.one_on-step.ensures.step ∙ c.in-Damage.is)

pub loop-d-smaller-in-Pass : goal.loop-d-smaller-in-Pass
loop-d-smaller-in-Pass c =
    let a = c.args in
    (pass_facts a.nand.now a.slots (serials_from a.oldest) a.q c.requires.nand_len.0 c.loop-d.at c.loop-d.invariant.sound _
    (sym c.one_on-step.ensures.step ∙ c.in-Pass.is)).falls

pub loop-d-preserved-in-Pass : goal.loop-d-preserved-in-Pass
loop-d-preserved-in-Pass c =
    let few : c.one_on-step.result.1 ≤ 255 = search rules in
    goes_pass _ _ _ _ _ _ c.requires.nand_len.0 _ _ c.loop-d.invariant _ c.one_on-step.ensures.bloom few _
    (sym c.one_on-step.ensures.step ∙ c.in-Pass.is) _ c.pages_with-pages.ensures

pub count_one-requires-clause-closed_sound : goal.count_one-requires-clause-closed_sound
count_one-requires-clause-closed_sound c =
    let a = c.args in
    (visit_facts a.nand.now a.slots (serials_from a.oldest) a.q c.requires.nand_len.0 c.loop-d.at c.loop-d.invariant.sound _ _
    (sym c.one_on-step.ensures.step ∙ c.in-Visit.is)).0

pub returns-in_err-n-in-Visit : goal.returns-in_err-n-in-Visit
returns-in_err-n-in-Visit c =
    let few : c.one_on-step.result.1 ≤ 255 = search rules in
    c.from_residual.ensures
    ∙ goes_broken _ _ _ _ _ _ c.requires.nand_len.0 _ _ c.loop-d.invariant _ c.one_on-step.ensures.bloom few _ _
    (sym c.one_on-step.ensures.step ∙ c.in-Visit.is) (sym c.in_err-n-in-Visit.was ∙ c.count_one.ensures)

pub loop-d-smaller : goal.loop-d-smaller
loop-d-smaller c =
    let a = c.args in
    (visit_facts a.nand.now a.slots (serials_from a.oldest) a.q c.requires.nand_len.0 c.loop-d.at c.loop-d.invariant.sound _ _
    (sym c.one_on-step.ensures.step ∙ c.in-Visit.is)).1.falls

pub loop-d-preserved : goal.loop-d-preserved
loop-d-preserved c =
    let few : c.one_on-step.result.1 ≤ 255 = search rules in
    goes_visit _ _ _ _ _ _ c.requires.nand_len.0 _ _ c.loop-d.invariant _ c.one_on-step.ensures.bloom few _ _
    (sym c.one_on-step.ensures.step ∙ c.in-Visit.is) _ (sym c.in_ok-n-in-Visit.was ∙ c.count_one.ensures)
