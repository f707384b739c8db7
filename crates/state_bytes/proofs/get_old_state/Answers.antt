-- `state_bytes::get_old_state` meets its contract: form 0, and the oldest live time.
use Rattle.state_bytes.proofs.Reading.{old_read}
use Rattle.state_bytes.proofs.get_old_state.Goals as goal

pub returns : goal.returns
returns c = old_read _ _ _ c.fields_at.ensures c.get_u64.ensures
