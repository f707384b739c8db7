-- `sweep::sweep_tree` meets its contract: what is found so far and what is left to be found is what the whole sweep finds.
use mathlib.Core.Path.{◌≡◌}
use mathlib.Core.List.{map}
use Prim.Native.Nat.{ℕ, ◌-◌}
use lib.Count.{count_trailing_zeros}
use Rattle.bitset.specs.Set.{elem}
use Rattle.tree.specs.Place.{bucket_page}
use Rattle.tree.specs.Sweep.{visited_on}
use Rattle.sweep.specs.Inner.Swept.{swept_of}
use Rattle.sweep.specs.Inner.Turns.{DueBelow, onward, read_onward}
use Rattle.sweep.proofs.sweep_tree.Given as goal

abbrev pub invariant-loop-t : goal.invariant-loop-t
invariant-loop-t l =
    DueBelow l.g.buckets l.t.due × (onward l.tree l.lifts l.tail l.g l.r l.t ≡ swept_of l.tree l.lifts l.tail l.g l.r)
    × ((j : ℕ) → read_onward l.tree l.g l.r l.t j ≡ elem j (map bucket_page (visited_on l.tree l.g.buckets l.r.k1 l.r.k2)))

abbrev pub decreases-loop-t : goal.decreases-loop-t
decreases-loop-t l = 64 - count_trailing_zeros 64 l.t.due
