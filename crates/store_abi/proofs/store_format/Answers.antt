-- `store_abi::store_format` meets its contract: the store's call on the state that the area holds.
use Rattle.store.specs.Calls.{formatted}
use Rattle.areas.specs.Areas.{format_called}
use Rattle.areas.proofs.Leaves.{wrong_length, right_length}
use Rattle.store_abi.proofs.store_format.Goals as goal

pub returns-then-state-ne-STATE_BYTES : goal.returns-then-state-ne-STATE_BYTES
unfolding format_called
returns-then-state-ne-STATE_BYTES c = wrong_length _ _ _ _ c.if-state-ne-STATE_BYTES.true

pub returns : goal.returns
unfolding format_called
returns c =
    right_length c.args.state.now _ _ _ _ _ _ _ _ _ c.if-state-ne-STATE_BYTES.false c.keep_state.ensures.number (c.keep_state.ensures.state formatted)
    c.format-r.ensures
