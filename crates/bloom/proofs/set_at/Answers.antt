-- `set_at`: the byte of the bit in the area is that byte of the section.
use Rattle.bloom.proofs.InArea.{set_at_is}
use Rattle.bloom.proofs.set_at.Goals as goal

pub returns : goal.returns
returns c =
    let a = c.args in
    let p = c.requires in
    set_at_is a.s.now a.at p.0 a.b p.1
