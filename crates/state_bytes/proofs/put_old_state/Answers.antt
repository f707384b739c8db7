-- `state_bytes::put_old_state` meets its contract: the oldest live time, then the fields of both forms.
use Rattle.state_bytes.proofs.Writing.{old_state_put}
use Rattle.state_bytes.proofs.put_old_state.Goals as goal

pub returns : goal.returns
returns c =
    old_state_put _ _ _ c.args.s c.requires c.put_u64.ensures c.put_fields.ensures
