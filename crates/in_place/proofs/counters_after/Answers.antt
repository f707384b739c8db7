-- `in_place::counters_after` meets its contract, field by field.
use Rattle.in_place.proofs.InPlace.{counters_made}
use Rattle.in_place.proofs.counters_after.Goals as goal

pub returns : goal.returns
returns c = λ load page section.
    counters_made _ _ load _ page section _ _ _ c.get_u32.ensures c.get_u32-2.ensures c.get_u16.ensures
