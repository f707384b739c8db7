-- `heads_ok`: one head after the other.
use Rattle.area_reads.proofs.Reading.{heads_read}
use Rattle.area_reads.proofs.heads_ok.Goals as goal

pub returns : goal.returns
returns c =
    heads_read _ _ _ _ _ _ _ _ _ _ c.pointer_at-p.ensures c.pointer_at-q.ensures
    c.pointer_at-r.ensures c.pointer_at-s.ensures c.in_slots.ensures
    c.in_slots-2.ensures c.in_slots-3.ensures c.in_slots-4.ensures
