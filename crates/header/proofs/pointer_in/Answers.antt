-- `pointer_in`: the pointer of its level.
use mathlib.Core.Path.{ap, ◌∙◌}
use Prim.Native.Nat.{ℕ, ◌+◌, ◌*◌, ◌≤◌}
use native.Mathlib.Omega.{arith}
use Rattle.skiplist.specs.PointerBytes.{pointer_at}
use Rattle.header.proofs.Tests.{pointer_read, pointer_room}
use Rattle.header.proofs.pointer_in.Goals as goal

pub overflow_mul-pointer_bytes : goal.overflow_mul-pointer_bytes
overflow_mul-pointer_bytes c =
    let room : c.pointer_bytes.result * c.args.k + c.pointer_bytes.result ≤ 56 = pointer_room c.args.form _ c.args.k c.pointer_bytes.ensures c.requires.1 in
    omega (arith, room)

pub overflow_add-pointer_bytes : goal.overflow_add-pointer_bytes
overflow_add-pointer_bytes c =
    let room : c.pointer_bytes.result * c.args.k + c.pointer_bytes.result ≤ 56 = pointer_room c.args.form _ c.args.k c.pointer_bytes.ensures c.requires.1 in
    omega (arith, room)

pub pointer_at-requires : goal.pointer_at-requires
pointer_at-requires c =
    let room : c.pointer_bytes.result * c.args.k + c.pointer_bytes.result ≤ 56 = pointer_room c.args.form _ c.args.k c.pointer_bytes.ensures c.requires.1 in
    omega (arith, room, c.pointer_bytes.ensures, c.requires.0)

pub returns : goal.returns
returns c =
    let a = c.args in
    c.pointer_at.ensures
    ∙ ap (λ (n : ℕ). pointer_at a.form a.h.now (40 + n * a.k)) c.pointer_bytes.ensures
    ∙ pointer_read a.form a.h.now a.k c.requires.1
