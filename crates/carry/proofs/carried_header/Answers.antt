-- `carried_header`: the kept fields and the pointers in a page of zeros.
use mathlib.Core.Path.{ap, ◌∙◌}
use Rattle.skiplist.specs.PointerBytes.{pointers_at}
use Rattle.header.proofs.HeaderBytes.{serial_most}
use Rattle.carry.specs.Carried.{pointers_into}
use Rattle.carry.proofs.Carrying.{header_put}
use native.Mathlib.Omega.{arith}
use Rattle.carry.proofs.carried_header.Goals as goal

pub pointers_at-p-requires : goal.pointers_at-p-requires
pointers_at-p-requires c =
    omega (arith, serial_most c.other-from.result, c.requires)

pub put_pointers-requires : goal.put_pointers-requires
put_pointers-requires c =
    omega (arith, serial_most c.args.form)

pub returns : goal.returns
returns c =
    let read = c.pointers_at-p.ensures ∙ ap (λ v. pointers_at v c.args.h.now 40) c.other-from.ensures in
    header_put c.args.form c.args.h.now c.requires.0 c.args.n _ _ _ _
    (c.carried_pointers-q.ensures ∙ ap (pointers_into c.args.form c.args.n 0) read) c.zeros-d.ensures c.put_kept.ensures
    c.put_pointers.ensures
