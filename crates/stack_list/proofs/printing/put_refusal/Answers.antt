-- `stack_list::printing::put_refusal` meets its contract.
use Rattle.stack_list.proofs.PrintTurns.{refusal_put}
use Rattle.stack_list.proofs.printing.put_refusal.Goals as goal

pub returns : goal.returns
returns c =
    refusal_put c.args.out.now c.requires _ c.put_number.ensures c.put_number.auto.s
