-- `stack_list::printing::put_end` meets its contract.
use native.Mathlib.Omega.{arith}
use Rattle.stack_list.proofs.PrintTurns.{end_put}
use Rattle.stack_list.proofs.printing.put_end.Goals as goal

pub returns : goal.returns
returns c =
    let a = c.args in
    (end_put a.out.now a.at a.end c.requires _ c.put_number.ensures c.put_number.auto.s, omega arith)
