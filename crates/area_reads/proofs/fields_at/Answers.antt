-- `fields_at`: one field after the other.
use Rattle.area_reads.proofs.Reading.{fields_read}
use Rattle.area_reads.proofs.fields_at.Goals as goal

pub returns : goal.returns
returns c =
    fields_read _ _ _ _ _ c.get_u32-oldest.ensures c.get_u32-current.ensures
    c.get_u16-count.ensures c.get_u8-buckets.ensures _ c.loads_at-loads.ensures
