-- `store_abi::store_page` meets its contract: a tally's page in its area.
use mathlib.Core.Path.{◌∙◌}
use Rattle.service_page.specs.Page.{page_of}
use Rattle.questions.proofs.TallyMost.{counts_fit}
use Rattle.areas.specs.Areas.{page_called}
use Rattle.areas.proofs.Leaves.{state_wrong, answer_wrong, both_right, refused_keeps, tally_left_lem}
use native.Mathlib.Omega.{arith}
use borrow.Author.Rules.{rules}
use Rattle.store_abi.proofs.store_page.Goals as goal

pub returns-then-state-ne-STATE_BYTES : goal.returns-then-state-ne-STATE_BYTES
unfolding page_called
returns-then-state-ne-STATE_BYTES c = state_wrong _ _ 984 _ _ c.if-state-ne-STATE_BYTES.true

pub returns-then-page-ne-PAGE_BYTES : goal.returns-then-page-ne-PAGE_BYTES
unfolding page_called
returns-then-page-ne-PAGE_BYTES c = answer_wrong _ _ 984 _ _ c.if-state-ne-STATE_BYTES.false c.if-page-ne-PAGE_BYTES.true

pub keep_page-requires : goal.keep_page-requires
keep_page-requires c =
    (search rules, omega (arith, counts_fit _ _ _ _ (rw c.in-Ok.is at c.tallied.ensures)))

pub returns-in-Err : goal.returns-in-Err
unfolding page_called
returns-in-Err c =
    rw c.number.ensures.is (
    tally_left_lem (page_of _ _) _ _ _ _ _ (rw c.in-Err.is at c.tallied.ensures) (refused_keeps c.in-Err.ground _ _)
    ∙ both_right _ _ 984 _ _ c.if-state-ne-STATE_BYTES.false c.if-page-ne-PAGE_BYTES.false
    )

pub returns-in-Ok : goal.returns-in-Ok
unfolding page_called
returns-in-Ok c =
    tally_left_lem (page_of _ _) _ _ _ _ _ (rw c.in-Ok.is at c.tallied.ensures) c.keep_page.ensures
    ∙ both_right _ _ 984 _ _ c.if-state-ne-STATE_BYTES.false c.if-page-ne-PAGE_BYTES.false
