-- `state_bytes::put_state` meets its contract: the fields in form 1.
use Rattle.codec.specs.Area.{part}
use Rattle.state_bytes.specs.StateBytes.{state_bytes}
use Rattle.state_bytes.proofs.put_state.Goals as goal

pub returns : goal.returns
unfolding part state_bytes
returns c = c.put_fields.ensures
