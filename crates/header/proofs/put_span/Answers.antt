-- `put_span`: four numbers side by side.
use Rattle.header.proofs.HeaderBytes.{span_put}
use Rattle.header.proofs.put_span.Goals as goal

pub returns : goal.returns
returns c =
    span_put _ _ _ _ _ _ _ _ _ c.requires c.put_u64.ensures c.put_u64-2.ensures
    c.put_u32.ensures
    c.put_u32-2.ensures
