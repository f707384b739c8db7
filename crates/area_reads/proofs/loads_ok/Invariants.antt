-- `loads_ok`: what is tested and what is left to test give what the whole gives.
use mathlib.Core.Path.{◌≡◌}
use mathlib.Core.Bool.{◌&&◌}
use Prim.Native.Nat.{◌≤◌}
use lib.ListN.{drop}
use Rattle.bounds.specs.Bounds.{loads_ok}
use Rattle.loads.specs.Signed.{loads_at}
use Rattle.area_reads.proofs.loads_ok.Given as goal

abbrev pub invariant-loop-i : goal.invariant-loop-i
invariant-loop-i l = (l.i ≤ 13) × ((l.good && loads_ok (drop l.i (loads_at l.b 75 13))) ≡ loads_ok (loads_at l.b 75 13))
