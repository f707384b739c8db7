-- `stack_list::printing::put_ends` meets its contract. The invariant: what is printed, with the lines left, is the whole.
use Rattle.stack_list.proofs.PrintTurns.{Printed}
use Rattle.stack_list.proofs.printing.put_ends.Given as goal

abbrev pub invariant-loop-number : goal.invariant-loop-number
invariant-loop-number l = Printed l.numbers l.initial.out l.out l.sum l.above l.at l.number-index
