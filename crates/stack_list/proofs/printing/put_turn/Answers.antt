-- `stack_list::printing::put_turn` meets its contract.
use Rattle.stack_list.proofs.PrintTurns.{blank_put, plate_put}
use Rattle.stack_list.proofs.printing.put_turn.Goals as goal

pub returns-then-plate-eq0 : goal.returns-then-plate-eq0
returns-then-plate-eq0 c =
    let e = c.put_end-blank in
    blank_put c.args.out.now e.new.out c.args.at e.result c.args.sum c.args.above c.args.plate c.requires.0
    e.ensures.1 c.if-plate-eq0.true e.ensures.0 e.auto.out

pub returns-else-plate-eq0 : goal.returns-else-plate-eq0
returns-else-plate-eq0 c =
    let e = c.put_end in
    plate_put c.args.out.now e.new.out c.args.at e.result c.args.sum c.args.above c.args.plate c.requires.0
    e.ensures.1 c.if-plate-eq0.false e.ensures.0
