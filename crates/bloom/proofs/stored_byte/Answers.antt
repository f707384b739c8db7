-- `stored_byte`: the byte lies in the first page's fragment or in the second's.
use mathlib.Core.Path.{sym}
use Rattle.bloom.proofs.Stored.{section_front, section_back}
use native.Mathlib.Omega.{arith}
use Rattle.bloom.proofs.stored_byte.Goals as goal

pub returns-then-n-l : goal.returns-then-n-l
returns-then-n-l c =
    let p = c.requires in
    sym (section_front _ _ _ p.0 p.1 p.2 _ p.3 (omega arith))

pub returns-else-n-l : goal.returns-else-n-l
returns-else-n-l c =
    let p = c.requires in
    sym (section_back _ _ _ p.0 p.1 p.2 _ p.3 (omega arith))
