-- `store_abi::lists::store_tolerant` meets its contract: the tolerant search on the state that the area holds, its counts in the answer's
-- area.
use mathlib.Core.Path.{◌≡◌, ap, ap₂, ◌∙◌}
use lib.IntN.{ℤ}
use lib.ListN.{length}
use mir.Syntax.{w32}
use mir.ValLaws.{to_z-of_z}
use Rattle.store.specs.World.{world}
use Rattle.grounds.proofs.Numbers.{refused}
use Rattle.tolerant.specs.Inner.Counted.{answered}
use Rattle.questions.proofs.Asked.{log_sound}
use Rattle.state_bytes.specs.StateBytes.{state_in}
use Rattle.tolerant.specs.Answers.{TolerantAnswer}
use Rattle.tolerant.specs.Call.{tolerant_outcome}
use Rattle.areas.specs.Areas.{tolerant_called}
use Rattle.areas.proofs.Leaves.{page_size, state_wrong, answer_wrong, both_right, tolerant_left}
use Rattle.store_abi.proofs.TextLeft.{kept_not}
use Rattle.store_abi.proofs.lists.store_tolerant.Goals.{After-tolerant_from}
use Rattle.store_abi.proofs.lists.store_tolerant.Goals as goal

pub returns-then-state-ne-STATE_BYTES : goal.returns-then-state-ne-STATE_BYTES
unfolding tolerant_called
returns-then-state-ne-STATE_BYTES c = state_wrong _ _ 16 _ _ c.if-state-ne-STATE_BYTES.true

pub returns-then-answer-ne-TOLERANT_BYTES : goal.returns-then-answer-ne-TOLERANT_BYTES
unfolding tolerant_called
returns-then-answer-ne-TOLERANT_BYTES c = answer_wrong _ _ 16 _ _ c.if-state-ne-STATE_BYTES.false c.if-answer-ne-TOLERANT_BYTES.true

pub tolerant_from-requires : goal.tolerant_from-requires
tolerant_from-requires c =
    let a = c.args in
    record {
      log_sound = λ z. log_sound a.nand.now a.nor.now (state_in a.state.now) a.slots _ c.ground-judged.ensures z _ c.log_at-g.ensures;
      page_len = ap length c.page_of-page.ensures ∙ page_size a.state.now c.if-state-ne-STATE_BYTES.false;
    }

-- what the tolerant search on the state comes to
outcome : (c : After-tolerant_from) → answered c.tolerant_from.result c.tolerant_from.new.certain c.tolerant_from.new.possible
    ≡ tolerant_outcome (world c.args.nand.now c.args.nor.now (state_in c.args.state.now)) c.args.slots c.args.t1 c.args.t2 c.args.k1 c.args.k2
    c.args.d c.args.certain.now c.args.possible.now
outcome c =
    let a = c.args in
    let on : ℤ → ℤ → TolerantAnswer =
    λ k1 k2. tolerant_outcome (world c.args.nand.now c.args.nor.now (state_in c.args.state.now)) c.args.slots c.args.t1 c.args.t2 k1 k2 c.args.d
    c.args.certain.now c.args.possible.now in
    c.tolerant_from.ensures (state_in a.state.now) a.slots c.ground-judged.ensures c.log_at-g.ensures c.page_of-page.ensures
    ∙ ap₂ on (to_z-of_z w32 a.k1 c.ranges.k1) (to_z-of_z w32 a.k2 c.ranges.k2)

pub returns-in-Ok : goal.returns-in-Ok
unfolding tolerant_called
returns-in-Ok c =
    tolerant_left _ _ _ _ _ _ _ _ (rw c.in-Ok.is at (outcome (goal.at.returns-in-Ok c).After-tolerant_from)) c.keep_both.ensures
    ∙ both_right _ _ 16 _ _ c.if-state-ne-STATE_BYTES.false c.if-answer-ne-TOLERANT_BYTES.false

pub returns-in-Err : goal.returns-in-Err
unfolding tolerant_called
returns-in-Err c =
    rw c.number.ensures.is
    (tolerant_left _ _ _ _ _ _ _ _ (rw c.in-Err.is at (outcome (goal.at.returns-in-Err c).After-tolerant_from))
    (kept_not _ (refused c.in-Err.ground) _ _)
    ∙ both_right _ _ 16 _ _ c.if-state-ne-STATE_BYTES.false c.if-answer-ne-TOLERANT_BYTES.false)
