-- `stack_list::reading::read_line` meets its contract.
use Rattle.std.proofs.Common.{true, false, rules}
use borrow.Author.Tests.{lt-ltb, le-ltb}
use Rattle.stack_list.proofs.PlateLine.{blank_line, no_plate_line, plate_line_lem}
use Rattle.stack_list.proofs.reading.read_line.Goals as goal

pub returns-then-plates-stacks : goal.returns-then-plates-stacks
returns-then-plates-stacks c =
    let a = c.args in
    blank_line a.stacks a.plates true c.if-plates-stacks.true a.line.now (search rules)

pub returns-else-plates-stacks : goal.returns-else-plates-stacks
returns-else-plates-stacks c =
    let a = c.args in
    blank_line a.stacks a.plates false c.if-plates-stacks.false a.line.now (search rules)

pub returns-in_err-number : goal.returns-in_err-number
returns-in_err-number c =
    let a = c.args in
    rw c.from_residual.ensures (no_plate_line a.stacks a.plates a.line.now (search rules) c.in_err-number.ensures)

pub returns-then-plates-lt-MOST_PLATES : goal.returns-then-plates-lt-MOST_PLATES
returns-then-plates-lt-MOST_PLATES c =
    let a = c.args in
    rw (lt-ltb a.plates 24 c.if-plates-lt-MOST_PLATES.true) at (plate_line_lem a.stacks a.plates a.line.now _ (search rules) c.in_ok-number.ensures)

pub returns-else-plates-lt-MOST_PLATES : goal.returns-else-plates-lt-MOST_PLATES
returns-else-plates-lt-MOST_PLATES c =
    let a = c.args in
    rw (le-ltb a.plates 24 c.if-plates-lt-MOST_PLATES.false) at (plate_line_lem a.stacks a.plates a.line.now _ (search rules) c.in_ok-number.ensures)
