-- `store_abi::texts::store_import_kept` meets its contract: the import that keeps counts, its line in the answer's area.
use mathlib.Core.Path.{◌∙◌}
use Rattle.areas.specs.Areas.{import_kept_called}
use Rattle.areas.proofs.Leaves.{state_wrong, answer_wrong, both_right}
use Rattle.store_abi.proofs.TextLeft.{import_left, third_wrong, third_right}
use Rattle.store_abi.proofs.texts.store_import_kept.Goals as goal

pub returns-then-state-ne-STATE_BYTES : goal.returns-then-state-ne-STATE_BYTES
unfolding import_kept_called
returns-then-state-ne-STATE_BYTES c = state_wrong _ _ 88 _ _ c.if-state-ne-STATE_BYTES.true

pub returns-then-counts-ne-COUNTS_BYTES : goal.returns-then-counts-ne-COUNTS_BYTES
unfolding import_kept_called
returns-then-counts-ne-COUNTS_BYTES c = answer_wrong _ _ 88 _ _ c.if-state-ne-STATE_BYTES.false c.if-counts-ne-COUNTS_BYTES.true

pub returns-then-answer-ne-NUMBER_BYTES : goal.returns-then-answer-ne-NUMBER_BYTES
unfolding import_kept_called
returns-then-answer-ne-NUMBER_BYTES c = third_wrong _ _ _ c.if-answer-ne-NUMBER_BYTES.true ∙ both_right _ _ 88 _ _ c.if-state-ne-STATE_BYTES.false c.if-counts-ne-COUNTS_BYTES.false

pub import-end-requires : goal.import-end-requires
import-end-requires c = (c.if-state-ne-STATE_BYTES.false, c.if-counts-ne-COUNTS_BYTES.false)

pub put_line-requires : goal.put_line-requires
put_line-requires c = c.if-answer-ne-NUMBER_BYTES.false

pub returns : goal.returns
unfolding import_kept_called
returns c =
    rw c.put_line.ensures.number (import_left _ _ _ _ _ _ c.import-end.ensures c.if-answer-ne-NUMBER_BYTES.false c.put_line.ensures.line)
    ∙ third_right _ _ _ c.if-answer-ne-NUMBER_BYTES.false
    ∙ both_right _ _ 88 _ _ c.if-state-ne-STATE_BYTES.false c.if-counts-ne-COUNTS_BYTES.false
