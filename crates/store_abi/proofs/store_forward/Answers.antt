-- `store_abi::store_forward` meets its contract: the conversion of the state that the area holds.
use mathlib.Core.Path.{ap, ◌∙◌}
use lib.ListN.{length}
use Rattle.store.specs.Calls.{formatted}
use Rattle.conversion.specs.Outcome.{forward_outcome}
use Rattle.areas.specs.Areas.{new_bytes, forward_called}
use Rattle.areas.proofs.Leaves.{first_wrong, second_wrong, both_equal, unfitting, fitting}
use Rattle.store_abi.proofs.store_forward.Goals as goal

pub returns-then-old-ne-OLD_STATE_BYTES : goal.returns-then-old-ne-OLD_STATE_BYTES
unfolding forward_called
returns-then-old-ne-OLD_STATE_BYTES c = unfitting _ new_bytes _ _ _ _ (first_wrong _ 775 (length c.args.state.now) 783 c.if-old-ne-OLD_STATE_BYTES.true)

pub returns-then-state-ne-STATE_BYTES : goal.returns-then-state-ne-STATE_BYTES
unfolding forward_called
returns-then-state-ne-STATE_BYTES c = unfitting _ new_bytes _ _ _ _ (second_wrong _ 775 _ 783 c.if-old-ne-OLD_STATE_BYTES.false c.if-state-ne-STATE_BYTES.true)

pub returns : goal.returns
unfolding forward_called
returns c =
    let a = c.args in
    fitting _ new_bytes a.state.now _ _ _ _ _ _ _
    (both_equal _ 775 _ 783 c.if-old-ne-OLD_STATE_BYTES.false c.if-state-ne-STATE_BYTES.false) c.keep_state.ensures.number (c.keep_state.ensures.state formatted)
    (c.forward-r.ensures
    ∙ ap (λ s. forward_outcome a.nand.now a.nor.now s a.slots a.to_nand.now a.to_nor.now) c.get_old_state-s.ensures)
