-- `store_abi::texts::store_export` meets its contract: the export of the state that the area holds, its length in the answer's area.
use mathlib.Core.Path.{◌≡◌, ap, ap₂, ◌∙◌}
use lib.IntN.{ℤ}
use lib.ListN.{length}
use mir.Syntax.{w32}
use mir.ValLaws.{to_z-of_z}
use Rattle.store.specs.World.{world}
use Rattle.grounds.proofs.Numbers.{refused}
use Rattle.export.specs.Inner.Sizing.{answered}
use Rattle.questions.proofs.Asked.{log_sound}
use Rattle.state_bytes.specs.StateBytes.{state_in}
use Rattle.export.specs.Answers.{ExportAnswer}
use Rattle.export.specs.Call.{export_outcome}
use Rattle.areas.specs.Areas.{export_called}
use Rattle.areas.proofs.Leaves.{page_size, state_wrong, answer_wrong, both_right}
use Rattle.store_abi.proofs.TextLeft.{kept_not, export_left}
use Rattle.store_abi.proofs.texts.store_export.Goals.{After-export_from}
use Rattle.store_abi.proofs.texts.store_export.Goals as goal

pub returns-then-state-ne-STATE_BYTES : goal.returns-then-state-ne-STATE_BYTES
unfolding export_called
returns-then-state-ne-STATE_BYTES c = state_wrong _ _ 8 _ _ c.if-state-ne-STATE_BYTES.true

pub returns-then-answer-ne-NUMBER_BYTES : goal.returns-then-answer-ne-NUMBER_BYTES
unfolding export_called
returns-then-answer-ne-NUMBER_BYTES c = answer_wrong _ _ 8 _ _ c.if-state-ne-STATE_BYTES.false c.if-answer-ne-NUMBER_BYTES.true

pub export_from-requires : goal.export_from-requires
export_from-requires c =
    let a = c.args in
    record {
      log_sound = λ z. log_sound a.nand.now a.nor.now (state_in a.state.now) a.slots _ c.ground-judged.ensures z _
          c.log_at-g.ensures;
      page_len = ap length c.page_of-page.ensures ∙ page_size a.state.now c.if-state-ne-STATE_BYTES.false;
    }

-- what the export of the state comes to
outcome : (c : After-export_from) → answered c.export_from.result c.export_from.new.area
    ≡ export_outcome (world c.args.nand.now c.args.nor.now (state_in c.args.state.now)) c.args.slots c.args.t1 c.args.t2 c.args.k1 c.args.k2 c.args.text.now
outcome c =
    let a = c.args in
    let on : ℤ → ℤ → ExportAnswer =
    λ k1 k2. export_outcome (world c.args.nand.now c.args.nor.now (state_in c.args.state.now)) c.args.slots c.args.t1 c.args.t2 k1 k2 c.args.text.now in
    c.export_from.ensures (state_in a.state.now) a.slots c.ground-judged.ensures c.log_at-g.ensures c.page_of-page.ensures
    ∙ ap₂ on (to_z-of_z w32 a.k1 c.ranges.k1) (to_z-of_z w32 a.k2 c.ranges.k2)

pub returns-in-Ok : goal.returns-in-Ok
unfolding export_called
returns-in-Ok c =
    export_left _ _ _ _ _ _ (rw c.in-Ok.is at (outcome (goal.at.returns-in-Ok c).After-export_from)) c.keep_number.ensures
    ∙ both_right _ _ 8 _ _ c.if-state-ne-STATE_BYTES.false c.if-answer-ne-NUMBER_BYTES.false

pub returns-in-Err : goal.returns-in-Err
unfolding export_called
returns-in-Err c =
    rw c.number.ensures.is
    (export_left _ _ _ _ _ _ (rw c.in-Err.is at (outcome (goal.at.returns-in-Err c).After-export_from)) (kept_not _ (refused c.in-Err.ground) _ _)
    ∙ both_right _ _ 8 _ _ c.if-state-ne-STATE_BYTES.false c.if-answer-ne-NUMBER_BYTES.false)
