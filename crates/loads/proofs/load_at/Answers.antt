-- `loads::load_at` meets its contract: the signed reading of the number there.
use Rattle.std.proofs.Common.{ap, ◌∙◌}
use Rattle.loads.specs.Signed.{signed, load_at}
use Rattle.loads.proofs.Signs.{signed_is, read_back}
use Rattle.loads.proofs.load_at.Goals as goal

pub returns : goal.returns
unfolding load_at
returns c = read_back _ _ c.cast_signed.type_inv (c.cast_signed.ensures ∙ signed_is _ ∙ ap signed c.get_u32.ensures)
