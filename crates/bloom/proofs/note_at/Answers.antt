-- `note_at`: three bits in the same section, each over what the one before left.
use Rattle.std.proofs.Common.{arith}
use Rattle.bloom.proofs.BitsTried.{the_bits, bit_small}
use Rattle.bloom.proofs.InArea.{noted_at_is}
use Rattle.bloom.proofs.note_at.Goals as goal

pub set_at-requires : goal.set_at-requires
set_at-requires c = (omega arith, bit_small _ _ (the_bits _ _ c.bits_of.ensures).first)

pub set_at-requires-2 : goal.set_at-requires-2
set_at-requires-2 c = (omega arith, bit_small _ _ (the_bits _ _ c.bits_of.ensures).second)

pub set_at-requires-3 : goal.set_at-requires-3
set_at-requires-3 c = (omega arith, bit_small _ _ (the_bits _ _ c.bits_of.ensures).third)

pub returns : goal.returns
returns c =
    let b = the_bits _ _ c.bits_of.ensures in
    noted_at_is _ _ c.requires.0 c.args.code _ _ _ _ _ _ b.first b.second b.third c.set_at.ensures c.set_at-2.ensures c.set_at-3.ensures
