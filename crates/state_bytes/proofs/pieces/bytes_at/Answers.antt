-- `state_bytes::pieces::bytes_at` meets its contract: N bytes are copied.
use Rattle.std.proofs.Common.{refl, ◌∙◌}
use Rattle.codec.proofs.Areas.{part_from}
use Rattle.state_bytes.proofs.pieces.bytes_at.Goals as goal

pub returns : goal.returns
returns g c = c.copy_from_slice.ensures.after ∙ part_from _ _ _ _ refl
