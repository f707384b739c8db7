-- `loads::loads_at` meets its contract: in each turn one load more is read.
use Rattle.std.proofs.Common.{◌≡◌, length, take}
use Rattle.loads.specs.Signed.{loads_at}
use Rattle.loads.proofs.loads_at.Given as goal

abbrev pub invariant-loop-i : goal.invariant-loop-i
invariant-loop-i l = (length l.x-items ≡ 13) × (take l.i l.x-items ≡ take l.i (loads_at l.b l.at 13))
