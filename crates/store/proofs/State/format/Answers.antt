-- `format`: refused by grounds 1 and 2, else both chips are erased.
use mathlib.Core.Path.{refl}
use Rattle.std.proofs.lemmas.Result.{err_from_is_err_and}
use Rattle.grounds.proofs.Numbers.{refused}
use Rattle.store.proofs.Outcomes.{format_refused, format_done}
use Rattle.store.proofs.State.format.Goals as goal

pub returns-in_err-chips_ground : goal.returns-in_err-chips_ground
returns-in_err-chips_ground c =
    let a = c.args in
    let p = err_from_is_err_and c.from_residual.result c.from_residual.ensures.1 in
    rw (p.1, p.2) (format_refused a.nand.now a.nor.now _ _ _ c.in_err-chips_ground.ensures refl (refused _))

pub returns : goal.returns
returns c =
    let a = c.args in
    format_done a.nand.now a.nor.now _ _ _ c.in_ok-chips_ground.ensures c.new.ensures _ _ refl c.erase_chip.ensures c.erase_chip-2.ensures
