-- `kept::put_counts` meets its contract: in each turn one count more is written.
use Rattle.codec.specs.Number.{bytes}
use Rattle.codec.proofs.Numbers.{length_bytes}
use Rattle.loads.proofs.SideBySide.{Put}
use Rattle.kept.proofs.put_counts.Given as goal

abbrev pub invariant-loop-i : goal.invariant-loop-i
invariant-loop-i l = Put (bytes 8) 8 (length_bytes 8) l.initial.answer 0 l.counts l.answer l.i
