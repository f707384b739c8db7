-- Counting lifts one by one at their plates gives the counts of them all, in whatever order they come: place by place. Together
-- the counts are as many as the lifts. Assumes nothing.
use mathlib.Core.Path.{◌≡◌, refl, sym, ap, ◌∙◌}
use mathlib.Core.Bool.{Bool, true, false, cond}
use mathlib.Core.List.{List, [], ◌∷◌, ◌++◌}
use Prim.Native.Nat.{ℕ, zero, suc, ◌+◌, ◌≤◌, ◌<◌}
use native.Mathlib.Omega.{arith}
use lib.Dec.{eqb}
use lib.ListN.{length, get_or, set, length-set}
use lib.Seq.{ext_get_or, get_or-set_same, get_or-set_other}
use borrow.Author.Tests.{eqb-true, eqb-false}
use Rattle.lift.specs.Limits.{load_of}
use Rattle.plate.specs.Total.{total}
use Rattle.plate.specs.Plate.{plate_of, count_at, counts_from, counts_of, no_counts}
use Rattle.plate.specs.Inner.Counted.{counted_in}
use Rattle.plate.proofs.Bands.{plate_small}
use Rattle.plate.proofs.Totals.{total_more}

-- ---- a count

pub count_append : (n : ℕ) (a b : List ℕ) → count_at n (a ++ b) ≡ count_at n a + count_at n b
unfolding count_at
count_append n [] b = omega arith
count_append n (code ∷ a) b = go (eqb (plate_of (load_of code)) n) (count_append n a b)
  where
    go : (t : Bool) → count_at n (a ++ b) ≡ count_at n a + count_at n b
        → cond t (suc (count_at n (a ++ b))) (count_at n (a ++ b)) ≡ cond t (suc (count_at n a)) (count_at n a) + count_at n b
    go true e = omega arith
    go false e = e

pub count_small : (n : ℕ) (codes : List ℕ) → count_at n codes ≤ length codes
unfolding count_at
count_small n [] = omega arith
count_small n (code ∷ codes) = go (eqb (plate_of (load_of code)) n) (count_small n codes)
  where
    go : (t : Bool) → count_at n codes ≤ length codes → cond t (suc (count_at n codes)) (count_at n codes) ≤ suc (length codes)
    go true h = omega arith
    go false h = omega arith

-- ---- the 22 counts

length_from : (k n : ℕ) (codes : List ℕ) → length (counts_from k n codes) ≡ k
unfolding counts_from
length_from zero n codes = refl
length_from (suc k) n codes = ap suc (length_from k (suc n) codes)

place_from : (k n : ℕ) (codes : List ℕ) (i : ℕ) → i < k → get_or (counts_from k n codes) i 0 ≡ count_at (n + i) codes
unfolding counts_from
place_from zero n codes i h = absurd (omega arith)
place_from (suc k) n codes zero h = ap (λ (m : ℕ). count_at m codes) (omega arith)
place_from (suc k) n codes (suc i) h = place_from k (suc n) codes i (omega arith) ∙ ap (λ (m : ℕ). count_at m codes) (omega arith)

pub length_counts : (codes : List ℕ) → length (counts_of codes) ≡ 22
unfolding counts_of
length_counts codes = length_from 22 0 codes

pub count_place : (codes : List ℕ) (i : ℕ) → i ≤ 21 → get_or (counts_of codes) i 0 ≡ count_at i codes
unfolding counts_of
count_place codes i h = place_from 22 0 codes i (omega arith) ∙ ap (λ (m : ℕ). count_at m codes) (omega arith)

-- counts are those of the same loads where every plate has as many
pub same_counts : (a b : List ℕ) → ((n : ℕ) → count_at n a ≡ count_at n b) → counts_of a ≡ counts_of b
same_counts a b e =
    let l = length_counts a in
    ext_get_or 0 (counts_of a) (counts_of b) (l ∙ sym (length_counts b)) (λ i h.
    count_place a i (omega arith) ∙ e i ∙ sym (count_place b i (omega arith)))

-- ---- one by one

pub counts_none : no_counts ≡ counts_of []
unfolding counts_of counts_from count_at
counts_none = refl

place_more : (codes : List ℕ) (p i : ℕ) → p ≤ 21 → i ≤ 21
    → get_or (set (counts_of codes) p (get_or (counts_of codes) p 0 + 1)) i 0
    ≡ cond (eqb p i) (suc (count_at i codes)) (count_at i codes)
place_more codes p i hp hi = go (eqb p i) refl
  where
    go : (t : Bool) → eqb p i ≡ t
        → get_or (set (counts_of codes) p (get_or (counts_of codes) p 0 + 1)) i 0 ≡ cond t (suc (count_at i codes)) (count_at i codes)
    go true e =
        let q : p ≡ i = eqb-true p i e in
        let l = length_counts codes in
        let c = count_place codes i hi in
        rw (q, get_or-set_same (counts_of codes) i (get_or (counts_of codes) i 0 + 1) 0 (omega arith)) (omega arith)
    go false e =
        get_or-set_other (counts_of codes) p i (get_or (counts_of codes) p 0 + 1) 0 (λ q. eqb-false p i e (sym q))
        ∙ count_place codes i hi

pub counts_more : (codes : List ℕ) (code : ℕ) → counted_in (counts_of codes) code ≡ counts_of (code ∷ codes)
unfolding count_at
counts_more codes code =
    let p : ℕ = plate_of (load_of code) in
    let n : length (set (counts_of codes) p (get_or (counts_of codes) p 0 + 1)) ≡ 22 =
    length-set (counts_of codes) p (get_or (counts_of codes) p 0 + 1) ∙ length_counts codes in
    ext_get_or 0 (counted_in (counts_of codes) code) (counts_of (code ∷ codes)) (n ∙ sym (length_counts (code ∷ codes))) (λ i h.
    place_more codes p i (plate_small (load_of code)) (omega arith) ∙ sym (count_place (code ∷ codes) i (omega arith)))

-- ---- the lifts of all plates together

pub total_none : total no_counts ≡ 0
unfolding total
total_none = refl

-- each lift is counted once, at one plate
pub counts_total : (codes : List ℕ) → total (counts_of codes) ≡ length codes
counts_total [] = ap total (sym counts_none) ∙ total_none
counts_total (code ∷ codes) =
    let l = length_counts codes in
    let r = counts_total codes in
    ap total (sym (counts_more codes code))
    ∙ total_more (counts_of codes) (plate_of (load_of code)) (omega (arith, plate_small (load_of code)))
    ∙ ap suc r
