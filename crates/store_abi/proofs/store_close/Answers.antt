-- `store_abi::store_close` meets its contract: the store's call on the state that the area holds.
use mathlib.Core.Path.{ap, ◌∙◌}
use Rattle.store.specs.World.{world}
use Rattle.store.specs.Calls.{close_outcome}
use Rattle.areas.specs.Areas.{close_called}
use Rattle.areas.proofs.Leaves.{wrong_length, right_length}
use Rattle.store_abi.proofs.store_close.Goals as goal

pub returns-then-state-ne-STATE_BYTES : goal.returns-then-state-ne-STATE_BYTES
unfolding close_called
returns-then-state-ne-STATE_BYTES c = wrong_length _ _ _ _ c.if-state-ne-STATE_BYTES.true

pub returns : goal.returns
unfolding close_called
returns c =
    right_length c.args.state.now _ _ _ _ _ _ _ _ _ c.if-state-ne-STATE_BYTES.false c.keep_state.ensures.number (c.keep_state.ensures.state c.get_state-s.result)
    (c.close-r.ensures
    ∙ ap (λ s. close_outcome (world c.args.nand.now c.args.nor.now s) c.args.slots) c.get_state-s.ensures)
