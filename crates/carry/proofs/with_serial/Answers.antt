-- `with_serial`: none gets serial 0, any other the multiple.
use Rattle.std.proofs.Common.{◌∙◌}
use Rattle.carry.proofs.Carrying.{serial_none, serial_some}
use Rattle.carry.proofs.with_serial.Goals as goal
use Rattle.carry.proofs.with_serial.Goals.{then-is_none, else-is_none}

pub returns : goal.returns
returns c = λ k e.
    elim c.if-is_none.branch [
      | then-is_none w ↦ serial_none _ k _ _ _ c.is_none.ensures w.if-is_none.true (rw w.serial-is at c.new.ensures)
      | else-is_none w ↦
          serial_some _ k _ _ _ c.is_none.ensures _ _ w.if-is_none.false (w.serial-is ∙ w.multiple_below-serial.ensures) e c.new.ensures
    ]
