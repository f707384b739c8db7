-- `has_bit`: the mask is a power, so the shift is a division by it.
use Rattle.bloom.proofs.Section.{mask_power}
use Rattle.bloom.proofs.has_bit.Goals as goal

pub returns : goal.returns
returns c = rw (mask_power c.args.b)
