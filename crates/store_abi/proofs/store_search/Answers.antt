-- `store_abi::store_search` meets its contract: the store's search on the state that the area holds, its count and pages in the answer's area.
use mathlib.Core.Path.{◌≡◌, ap, ap₂, ◌∙◌}
use Rattle.form.specs.declared.Form.TheVariants.{New}
use lib.IntN.{ℤ}
use lib.ListN.{length}
use mir.Syntax.{w32}
use mir.ValLaws.{to_z-of_z}
use Rattle.search.specs.Answers.{SearchAnswer, answer_of}
use Rattle.store.specs.World.{world}
use Rattle.questions.specs.Queries.{search_outcome}
use Rattle.questions.proofs.Asked.{log_sound}
use Rattle.state_bytes.specs.StateBytes.{state_in}
use Rattle.areas.specs.Areas.{search_called}
use Rattle.areas.proofs.Leaves.{page_size, state_wrong, answer_wrong, both_right, refused_keeps, search_left}
use native.Mathlib.Omega.{arith}
use Rattle.store_abi.proofs.store_search.Goals as goal
use Rattle.store_abi.proofs.store_search.Goals.{After-search_from}

pub returns-then-state-ne-STATE_BYTES : goal.returns-then-state-ne-STATE_BYTES
unfolding search_called
returns-then-state-ne-STATE_BYTES c = state_wrong _ _ 32 _ _ c.if-state-ne-STATE_BYTES.true

pub returns-then-answer-ne-SEARCH_BYTES : goal.returns-then-answer-ne-SEARCH_BYTES
unfolding search_called
returns-then-answer-ne-SEARCH_BYTES c = answer_wrong _ _ 32 _ _ c.if-state-ne-STATE_BYTES.false c.if-answer-ne-SEARCH_BYTES.true

pub search_from-requires : goal.search_from-requires
search_from-requires c =
    let a = c.args in
    record {
      log_sound = λ z. log_sound a.nand.now a.nor.now (state_in a.state.now) a.slots _ c.ground-judged.ensures z _ c.log_at-g.ensures;
      page_len = ap length c.page_of-page.ensures ∙ page_size a.state.now c.if-state-ne-STATE_BYTES.false;
    }

-- the store's search on the state that the area holds
found : (c : After-search_from) → answer_of c.search_from.result c.search_from.new.area
    ≡ search_outcome (world c.args.nand.now c.args.nor.now (state_in c.args.state.now)) c.args.slots c.args.t1 c.args.t2 c.args.k1 c.args.k2
    c.args.rows.now
found c =
    let a = c.args in
    let on : ℤ → ℤ → SearchAnswer =
    λ k1 k2. search_outcome (world a.nand.now a.nor.now (state_in a.state.now)) a.slots a.t1 a.t2 k1 k2 a.rows.now in
    c.search_from.ensures (state_in a.state.now) a.slots c.ground-judged.ensures c.log_at-g.ensures c.page_of-page.ensures
    ∙ ap₂ on (to_z-of_z w32 a.k1 c.ranges.k1) (to_z-of_z w32 a.k2 c.ranges.k2)

pub returns-in-Err : goal.returns-in-Err
unfolding search_called
returns-in-Err c =
    rw c.number.ensures.is (
    search_left _ _ _ _ _ _ _ (rw c.in-Err.is at (found (goal.at.returns-in-Err c).After-search_from)) (refused_keeps c.in-Err.ground _ _)
    ∙ both_right _ _ 32 _ _ c.if-state-ne-STATE_BYTES.false c.if-answer-ne-SEARCH_BYTES.false
    )

pub returns-in-Ok : goal.returns-in-Ok
unfolding search_called
returns-in-Ok c =
    search_left _ _ _ _ _ _ _ (rw c.in-Ok.is at (found (goal.at.returns-in-Ok c).After-search_from)) c.keep_search.ensures
    ∙ both_right _ _ 32 _ _ c.if-state-ne-STATE_BYTES.false c.if-answer-ne-SEARCH_BYTES.false
