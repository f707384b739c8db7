-- `state_bytes::get_state` meets its contract: form 1.
use Rattle.state_bytes.specs.StateBytes.{state_in}
use Rattle.state_bytes.proofs.get_state.Goals as goal

pub returns : goal.returns
unfolding state_in
returns c = c.fields_at.ensures
