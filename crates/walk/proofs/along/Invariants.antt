-- `walk::along` meets its contract: the hops that are left lead from here to where they lead from the first place.
use mathlib.Core.Path.{◌≡◌}
use Prim.Native.Nat.{suc}
use Rattle.skiplist.specs.Skip.{serials_from}
use Rattle.walk.specs.Inner.Placed.{PlaceSound, walk_at, hops_left, walked_on}
use Rattle.walk.proofs.along.Given as goal

abbrev pub invariant-loop-heads : goal.invariant-loop-heads
invariant-loop-heads l =
    PlaceSound l.nand l.slots l.heads l.w
    × (walked_on l.nand l.slots (serials_from l.oldest) l.t2 (walk_at l.nand l.heads (suc l.k) l.w)
    ≡ walked_on l.nand l.slots (serials_from l.oldest) l.t2 (walk_at l.nand l.heads (suc l.k) l.initial.w))

abbrev pub decreases-loop-heads : goal.decreases-loop-heads
decreases-loop-heads l = hops_left (walk_at l.nand l.heads (suc l.k) l.w)
