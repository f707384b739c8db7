-- `bits_of`: each with its own A.
use Rattle.bloom.specs.Bloom.{multiplier, bloom_bit}
use Rattle.bloom.proofs.bits_of.Goals as goal

pub returns : goal.returns
unfolding multiplier bloom_bit
returns c = rw (c.cut.ensures, c.cut-2.ensures, c.cut-3.ensures)
