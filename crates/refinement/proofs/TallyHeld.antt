-- A tally on a history's world counts at most 320 lifts for each slot: a segment has at most 320 lifts, and where the open one has any,
-- the closed ones are fewer than the slots. Assumes nothing.
use mathlib.Core.Path.{ap}
use mathlib.Core.Bool.{Bool, true, false, cond}
use mathlib.Core.List.{List, [], ◌∷◌, ◌++◌}
use Prim.Native.Nat.{ℕ, suc, ◌*◌, ◌≤◌, ◌<◌}
use native.Mathlib.Omega.{arith}
use lib.Dec.{eqb}
use lib.IntN.{ℤ, pos, negsuc}
use lib.ListN.{length, length-append, length-map}
use Rattle.lift.specs.Limits.{stored}
use Rattle.plate.specs.Total.{total}
use Rattle.plate.specs.Plate.{no_counts, counts_of}
use Rattle.plate.proofs.Counts.{total_none, counts_total}
use Rattle.tally.specs.Answers.{TallyAnswer}
use Rattle.questions.specs.Queries.{tally_outcome}
use Rattle.paper_log.specs.Calls as Paper
use Rattle.paper_log.specs.Log.{Lift, codes, wanted, among, joined, retained, found}
use Rattle.refinement.specs.Inner.Image.{History, image}
use Rattle.refinement.proofs.Good.{AllBuilt, Good}
use Rattle.refinement.proofs.TallyFound.{tally_is}

-- ---- the lifts held

joined_most : (closed : List (List Lift)) → AllBuilt closed → length (joined closed) ≤ length closed * 320
unfolding joined
joined_most [] b = omega arith
joined_most (ls ∷ rest) b = omega (arith, length-append ls (joined rest), b.0.few, joined_most rest b.1)

pub held_most : (h : History) → Good h → length (retained h.log) ≤ h.log.slots * 320
held_most h g = go h.log.current g.segment.few g.busy
  where
    go : (ls : List Lift) → length ls ≤ 320 → (0 < length ls → length h.log.closed < h.log.slots)
        → length (joined h.log.closed ++ ls) ≤ h.log.slots * 320
    go [] few busy =
        omega (arith, length-append (joined h.log.closed) [], joined_most h.log.closed g.segments, g.room)
    go (l ∷ ls) few busy =
        omega (
          arith,
          length-append (joined h.log.closed) (l ∷ ls),
          joined_most h.log.closed g.segments,
          busy (omega arith),
        )

-- ---- those found are among them

among_most : (t1 t2 : ℕ) (k1 k2 : ℤ) (ls : List Lift) → length (among t1 t2 k1 k2 ls) ≤ length ls
unfolding among
among_most t1 t2 k1 k2 [] = omega arith
among_most t1 t2 k1 k2 (l ∷ ls) = go (wanted t1 t2 k1 k2 l) (among_most t1 t2 k1 k2 ls)
  where
    go : (t : Bool) → length (among t1 t2 k1 k2 ls) ≤ length ls
        → length (cond t (l ∷ among t1 t2 k1 k2 ls) (among t1 t2 k1 k2 ls)) ≤ suc (length ls)
    go true r = omega arith
    go false r = omega arith

pub found_held : (h : History) → Good h → (t1 t2 : ℕ) (k1 k2 : ℤ) → length (found h.log t1 t2 k1 k2) ≤ h.log.slots * 320
unfolding found
found_held h g t1 t2 k1 k2 = omega (arith, held_most h g, among_most t1 t2 k1 k2 (retained h.log))

-- ---- the tally

pub counts_held_lem : (h : History) → Good h → (k t1 t2 : ℕ) → total (tally_outcome (image h) k t1 t2).counts ≤ h.log.slots * 320
counts_held_lem h g k t1 t2 =
    rw (ap (λ (a : TallyAnswer). total a.counts) (tally_is h g k t1 t2)) (go (eqb (Paper.tally_number h.log k t1 t2) 0))
  where
    go : (t : Bool) → total (cond t (counts_of (codes (Paper.all_loads h.log t1 t2))) no_counts) ≤ h.log.slots * 320
    go true =
        omega (
          arith,
          counts_total (codes (Paper.all_loads h.log t1 t2)),
          length-map (Paper.all_loads h.log t1 t2) (λ l. stored l.load),
          found_held h g t1 t2 (negsuc 49999) (pos 100000),
        )
    go false = omega (arith, total_none)
