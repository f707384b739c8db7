-- `log_at`: one field after the other.
use Rattle.area_reads.proofs.Reading.{log_read}
use Rattle.area_reads.proofs.log_at.Goals as goal

pub returns : goal.returns
returns c =
    log_read _ _ _ _ _ c.get_u32-oldest.ensures
    c.get_u32-current.ensures c.get_u16-count.ensures
    c.get_u8-buckets.ensures _ c.get_u64-start.ensures _ _ c.pointers_at-heads.ensures
