-- `counts::area::get_counts` meets its contract: in each turn one count more is read.
use mathlib.Core.Path.{◌≡◌}
use lib.ListN.{length, take}
use Rattle.counts.specs.CountsBytes.{counts_in}
use Rattle.counts.proofs.area.get_counts.Given as goal

abbrev pub invariant-loop-i : goal.invariant-loop-i
invariant-loop-i l = (length l.n-items ≡ 22) × (take l.i l.n-items ≡ take l.i (counts_in l.b))
