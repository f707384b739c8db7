-- `stack_list::reading::plate_in` meets its contract.
use Rattle.stack_list.proofs.PlateLine.{other_length, no_number, no_plate, a_plate}
use Rattle.stack_list.proofs.reading.plate_in.Goals as goal

pub returns-then-line-ne-COLUMNS : goal.returns-then-line-ne-COLUMNS
returns-then-line-ne-COLUMNS c = other_length c.args.line.now c.if-line-ne-COLUMNS.true

pub returns-in_err-plate : goal.returns-in_err-plate
returns-in_err-plate c =
    rw c.from_residual.ensures
    (no_number c.args.line.now c.if-line-ne-COLUMNS.false _ c.field_at.ensures.0 c.in_err-plate.ensures)

pub returns-then-plate : goal.returns-then-plate
returns-then-plate c =
    a_plate c.args.line.now c.if-line-ne-COLUMNS.false _ c.field_at.ensures.0 _ c.in_ok-plate.ensures c.if-plate.true

pub returns-else-plate : goal.returns-else-plate
returns-else-plate c =
    no_plate c.args.line.now c.if-line-ne-COLUMNS.false _ c.field_at.ensures.0 _ c.in_ok-plate.ensures c.if-plate.false
