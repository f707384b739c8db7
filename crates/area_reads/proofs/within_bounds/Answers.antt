-- `within_bounds`: the numbers, then six tests.
use Rattle.loads.proofs.Signs.{read_back}
use Rattle.area_reads.proofs.Reading.{bounds_read}
use Rattle.area_reads.proofs.within_bounds.Goals as goal

pub returns : goal.returns
returns c =
    bounds_read _ _ _ _ _ c.get_u32-oldest.ensures c.get_u32-current.ensures c.get_u16-count.ensures
    c.get_u8-buckets.ensures _ c.get_u64-start.ensures _ _ _ _ _ _ _ _ _ _ c.get_u64-next.ensures
    (read_back _ _ c.load_at-low.type_inv c.load_at-low.ensures)
    (read_back _ _ c.load_at-high.type_inv c.load_at-high.ensures)
    c.serials_ok-serials.ensures
    c.counts_ok-counts.ensures
    c.times_ok-times.ensures c.span_ok-span.ensures c.loads_ok-loads.ensures
    c.heads_ok-heads.ensures
