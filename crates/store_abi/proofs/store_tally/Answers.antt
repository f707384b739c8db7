-- `store_abi::store_tally` meets its contract: its counts in the area of the answer.
use mathlib.Core.Path.{◌∙◌}
use Rattle.codec.specs.Number.{bytes}
use Rattle.loads.specs.Signed.{side_by_side}
use Rattle.areas.specs.Areas.{tally_called}
use Rattle.areas.proofs.Leaves.{state_wrong, answer_wrong, both_right, refused_keeps, tally_left_lem}
use Rattle.store_abi.proofs.store_tally.Goals as goal

pub returns-then-state-ne-STATE_BYTES : goal.returns-then-state-ne-STATE_BYTES
unfolding tally_called
returns-then-state-ne-STATE_BYTES c = state_wrong _ _ 176 _ _ c.if-state-ne-STATE_BYTES.true

pub returns-then-answer-ne-COUNTS_BYTES : goal.returns-then-answer-ne-COUNTS_BYTES
unfolding tally_called
returns-then-answer-ne-COUNTS_BYTES c = answer_wrong _ _ 176 _ _ c.if-state-ne-STATE_BYTES.false c.if-answer-ne-COUNTS_BYTES.true

pub returns-in-Err : goal.returns-in-Err
unfolding tally_called
returns-in-Err c =
    rw c.number.ensures.is (
    tally_left_lem (side_by_side (bytes 8)) _ _ _ _ _ (rw c.in-Err.is at c.tallied.ensures) (refused_keeps c.in-Err.ground _ _)
    ∙ both_right _ _ 176 _ _ c.if-state-ne-STATE_BYTES.false c.if-answer-ne-COUNTS_BYTES.false
    )

pub returns-in-Ok : goal.returns-in-Ok
unfolding tally_called
returns-in-Ok c =
    tally_left_lem (side_by_side (bytes 8)) _ _ _ _ _ (rw c.in-Ok.is at c.tallied.ensures) c.keep_counts.ensures
    ∙ both_right _ _ 176 _ _ c.if-state-ne-STATE_BYTES.false c.if-answer-ne-COUNTS_BYTES.false
