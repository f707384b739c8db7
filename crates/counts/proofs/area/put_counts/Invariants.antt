-- `counts::area::put_counts` meets its contract: in each turn one count more is written.
use Rattle.codec.specs.Number.{bytes}
use Rattle.codec.proofs.Numbers.{length_bytes}
use Rattle.loads.proofs.SideBySide.{Put}
use Rattle.counts.proofs.area.put_counts.Given as goal

abbrev pub invariant-loop-i : goal.invariant-loop-i
invariant-loop-i l = Put (bytes 4) 4 (length_bytes 4) l.initial.b 0 l.fn.counts l.b l.i
