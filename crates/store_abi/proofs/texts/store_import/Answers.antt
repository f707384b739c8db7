-- `store_abi::texts::store_import` meets its contract: the import into the state that the area holds, its line in the answer's area.
use mathlib.Core.Path.{◌∙◌}
use Rattle.areas.specs.Areas.{import_called}
use Rattle.areas.proofs.Leaves.{state_wrong, answer_wrong, both_right}
use Rattle.store_abi.proofs.TextLeft.{import_left}
use Rattle.store_abi.proofs.texts.store_import.Goals as goal

pub returns-then-state-ne-STATE_BYTES : goal.returns-then-state-ne-STATE_BYTES
unfolding import_called
returns-then-state-ne-STATE_BYTES c = state_wrong _ _ 8 _ _ c.if-state-ne-STATE_BYTES.true

pub returns-then-answer-ne-NUMBER_BYTES : goal.returns-then-answer-ne-NUMBER_BYTES
unfolding import_called
returns-then-answer-ne-NUMBER_BYTES c = answer_wrong _ _ 8 _ _ c.if-state-ne-STATE_BYTES.false c.if-answer-ne-NUMBER_BYTES.true

pub import-end-requires : goal.import-end-requires
import-end-requires c = c.if-state-ne-STATE_BYTES.false

pub put_line-requires : goal.put_line-requires
put_line-requires c = c.if-answer-ne-NUMBER_BYTES.false

pub returns : goal.returns
unfolding import_called
returns c =
    rw c.put_line.ensures.number (import_left _ _ _ _ _ _ c.import-end.ensures c.if-answer-ne-NUMBER_BYTES.false c.put_line.ensures.line)
    ∙ both_right _ _ 8 _ _ c.if-state-ne-STATE_BYTES.false c.if-answer-ne-NUMBER_BYTES.false
