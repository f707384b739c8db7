-- `put_fragment`: from NOR, or from the buffer.
use mathlib.Core.Path.{◌∙◌, ap}
use Prim.Native.Nat.{◌+◌, ◌-◌, ◌*◌}
use Rattle.codec.specs.Area.{splice}
use Rattle.codec.proofs.Areas.{part_from}
use Rattle.bloom.proofs.Stored.{part_in_nor, part_in_buffer}
use native.Mathlib.Omega.{arith}
use Rattle.bloom.proofs.put_fragment.Goals as goal

pub returns-then-j-count : goal.returns-then-j-count
returns-then-j-count c =
    let a = c.args in
    let start = 4608 + a.j * 128 in
    let e = part_from a.nor.now (start + a.from) (start + a.to) (a.to - a.from) (omega arith) in
    c.copy.ensures
    ∙ ap (splice a.d.now a.at)
    (e ∙ part_in_nor a.nor.now a.buffer.now a.count a.j c.requires.nor_len.0 c.requires.nor_len.1 a.from (a.to - a.from) (omega arith) (omega arith))

pub returns-else-j-count : goal.returns-else-j-count
returns-else-j-count c =
    let a = c.args in
    let e = part_from a.buffer.now a.from a.to (a.to - a.from) (omega arith) in
    c.copy-else-j-count.ensures
    ∙ ap (splice a.d.now a.at)
    (e ∙ part_in_buffer a.nor.now a.buffer.now a.count a.j a.from (a.to - a.from) (omega arith) c.requires.nor_len.2)
