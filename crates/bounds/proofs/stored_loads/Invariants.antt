-- `stored_loads`: load by load.
use mathlib.Core.Path.{◌≡◌}
use lib.ListN.{length, take}
use Rattle.lift.specs.Limits.{stored}
use mathlib.Core.List.{map}
use Rattle.bounds.proofs.stored_loads.Given as goal

abbrev pub invariant-loop-i : goal.invariant-loop-i
invariant-loop-i l = (length l.c ≡ 13) × (take l.i l.c ≡ take l.i (map stored l.fn.loads))
