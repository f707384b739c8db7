-- `stack_list::reading::read_list` meets its contract. The invariant: the lines left, judged with the counts so far, decide about the text.
use Prim.Native.Nat.{◌-◌}
use lib.ListN.{length}
use Rattle.stack_list.proofs.ReadTurns.{Reading}
use Rattle.stack_list.proofs.reading.read_list.Given as goal

abbrev pub invariant-loop-at : goal.invariant-loop-at
invariant-loop-at l = Reading l.text l.initial.numbers l.numbers l.at l.lines l.stacks l.plates

abbrev pub decreases-loop-at : goal.decreases-loop-at
decreases-loop-at l = length l.text - l.at
