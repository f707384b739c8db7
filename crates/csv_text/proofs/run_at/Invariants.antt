-- `csv_text::run_at` meets its contract. The invariant: what is left to read from here gives what the whole gives.
use Rattle.csv_text.specs.Inner.Descent.{Running}
use Rattle.csv_text.proofs.run_at.Given as goal

abbrev pub invariant-loop-end : goal.invariant-loop-end
invariant-loop-end l = Running l.text l.at l.most l.value l.end
