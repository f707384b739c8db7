-- A segment that a search passes over has no wanted lift: a wanted load lies in the span from low to high, and for equal loads
-- no hash bit of it is clear in all sections. Assumes nothing.
use mathlib.Core.Path.{◌≡◌, refl, sym, ◌∙◌}
use mathlib.Core.Bool.{Bool, true, false, cond, not, ◌&&◌}
use mathlib.Core.List.{List, [], ◌∷◌, ◌++◌}
use Prim.Native.Nat.{ℕ, zero, suc, ◌≤◌, ◌<◌}
use native.Mathlib.Omega.{arith}
use lib.Dec.{ltb}
use lib.IntN.{ℤ, pos, negsuc}
use lib.ListN.{length, get_or}
use lib.Signed.{le_z, lt_z}
use borrow.Author.Tests.{ltb-false, le-ltb, le-leb, leb-true}
use Rattle.codec.proofs.Truth.{and_parts}
use Rattle.flash.specs.Chip.{pages_of}
use Rattle.lift.specs.Limits.{load_ok, stored}
use Rattle.lift.proofs.Codes.{stored_le}
use Rattle.bitset.specs.Set.{elem}
use Rattle.bitset.proofs.Elem.{elem_at}
use Rattle.bloom.specs.Bloom.{may_hold}
use Rattle.bloom.specs.Pages.{section_count, segment_sections, bloom_page, sections_in}
use Rattle.bloom.proofs.Pages.{bloom_never_misses_in_pages}
use Rattle.tree.specs.Search.{within}
use Rattle.tree.proofs.Search.{within_sides}
use Rattle.header.specs.declared.Header.{Header}
use Rattle.visit.specs.Visit.{timely}
use Rattle.walk.specs.Advance.{is_passed}
use Rattle.questions.specs.Queries.{query_of}
use Rattle.paper_log.specs.Log.{Lift, codes, wanted, among}
use Rattle.refinement.specs.Inner.Segments as S
use Rattle.refinement.proofs.Good.{GoodLifts, Built}
use Rattle.refinement.proofs.Lengths.{length_codes}
use Rattle.refinement.proofs.InBounds.{low_ok, high_ok, low_most, high_least, le_self}
use Rattle.refinement.proofs.Wanted.{no_lift, none_wanted}
use Rattle.refinement.proofs.Records.{good_at}
use Rattle.refinement.proofs.OneSegment.{code_at, wanted_is}

-- ---- the span

not_lower : (a b : ℤ) → lt_z a b ≡ false → le_z b a ≡ true
not_lower (pos a) (pos b) e = le-leb b a (ltb-false a b e)
not_lower (pos a) (negsuc b) e = refl
not_lower (negsuc a) (pos b) e = cc
not_lower (negsuc a) (negsuc b) e = le-leb a b (ltb-false b a e)

-- low is not above, and high not below, a load of the segment
low_below : (m : ℤ) (ls : List Lift) (p : ℕ) → p < length ls → le_z (S.low_from m (S.loads_of ls)) (get_or ls p no_lift).load ≡ true
unfolding S.low_from
low_below m [] p h = absurd (omega arith)
low_below m (l ∷ ls) zero h = low_most (cond (lt_z l.load m) l.load m) l.load (S.loads_of ls) (go (lt_z l.load m) refl)
  where
    go : (t : Bool) → lt_z l.load m ≡ t → le_z (cond t l.load m) l.load ≡ true
    go true e = le_self l.load
    go false e = not_lower l.load m e
low_below m (l ∷ ls) (suc p) h = low_below (cond (lt_z l.load m) l.load m) ls p (omega arith)

high_above : (m : ℤ) (ls : List Lift) (p : ℕ) → p < length ls → le_z (get_or ls p no_lift).load (S.high_from m (S.loads_of ls)) ≡ true
unfolding S.high_from
high_above m [] p h = absurd (omega arith)
high_above m (l ∷ ls) zero h =
    high_least (cond (lt_z m l.load) l.load m) l.load (S.loads_of ls) (go (lt_z m l.load) refl)
  where
    go : (t : Bool) → lt_z m l.load ≡ t → le_z l.load (cond t l.load m) ≡ true
    go true e = le_self l.load
    go false e = not_lower m l.load e
high_above m (l ∷ ls) (suc p) h = high_above (cond (lt_z m l.load) l.load m) ls p (omega arith)

-- as stored
in_span : (ls : List Lift) (p : ℕ) → GoodLifts ls → p < length ls
    → (stored (S.low_of (S.loads_of ls)) ≤ stored (get_or ls p no_lift).load)
    × (stored (get_or ls p no_lift).load ≤ stored (S.high_of (S.loads_of ls)))
in_span [] p g h = absurd (omega arith)
in_span (l ∷ ls) p g h = (low p h, high p h)
  where
    low : (p : ℕ) → p < length (l ∷ ls) → stored (S.low_from l.load (S.loads_of ls)) ≤ stored (get_or (l ∷ ls) p no_lift).load
    low p h =
        leb-true _ _ (sym (stored_le (S.low_from l.load (S.loads_of ls)) (get_or (l ∷ ls) p no_lift).load
        (low_ok l.load ls g.0.load g.1)
        (good_at (l ∷ ls) p g h).load) ∙ below p h)
      where
        below : (p : ℕ) → p < length (l ∷ ls) → le_z (S.low_from l.load (S.loads_of ls)) (get_or (l ∷ ls) p no_lift).load ≡ true
        below zero h = low_most l.load l.load (S.loads_of ls) (le_self l.load)
        below (suc p) h = low_below l.load ls p (omega arith)

    high : (p : ℕ) → p < length (l ∷ ls) → stored (get_or (l ∷ ls) p no_lift).load ≤ stored (S.high_from l.load (S.loads_of ls))
    high p h =
        leb-true _ _ (sym (stored_le (get_or (l ∷ ls) p no_lift).load (S.high_from l.load (S.loads_of ls))
        (good_at (l ∷ ls) p g h).load
        (high_ok l.load ls g.0.load g.1)) ∙ above p h)
      where
        above : (p : ℕ) → p < length (l ∷ ls) → le_z (get_or (l ∷ ls) p no_lift).load (S.high_from l.load (S.loads_of ls)) ≡ true
        above zero h = high_least l.load l.load (S.loads_of ls) (le_self l.load)
        above (suc p) h = high_above l.load ls p (omega arith)

-- ---- passed over

module _ (t1 t2 : ℕ) (k1 k2 : ℤ) (ok1 : load_ok k1 ≡ true) (ok2 : load_ok k2 ≡ true) (ls : List Lift) (b : Built ls)
    (nand : List ℕ) (slot : ℕ)
    (head : Header) (count : head.count ≡ length ls) (low : head.low ≡ stored (S.low_of (S.loads_of ls)))
    (high : head.high ≡ stored (S.high_of (S.loads_of ls))) (second : List ℕ) (room : 512 ≤ length second)
    (used : 5 ≤ section_count (length (codes ls)) → second ≡ bloom_page (segment_sections (codes ls)) 1)
    (pages : pages_of nand slot 29 2 ≡ bloom_page (segment_sections (codes ls)) 0 ++ second) where
  abbrev load : ℕ → ℕ
  load p = stored (get_or ls p no_lift).load

  in_range : (p : ℕ) → p < length ls → wanted t1 t2 k1 k2 (get_or ls p no_lift) ≡ true → (stored k1 ≤ load p) × (load p ≤ stored k2)
  in_range p h w =
      within_sides (stored k1) (stored k2) (load p)
      (and_parts (within (stored k1) (stored k2) (load p)) (timely (query_of t1 t2 k1 k2) (get_or ls p no_lift).time)
      (wanted_is t1 t2 k1 k2 ok1 ok2 (get_or ls p no_lift) (good_at ls p b.lifts h).load ∙ w)).0

  held : (p : ℕ) → p < length ls → may_hold (sections_in (pages_of nand slot 29 2) (section_count (length ls))) (load p) ≡ true
  held p h =
      let n = length_codes ls in
      let e : elem (load p) (codes ls) ≡ true = rw (code_at ls p h) at (elem_at (codes ls) p (omega arith)) in
      rw (pages, ← n) (bloom_never_misses_in_pages (codes ls) second (load p) (omega (arith, b.few)) room used e)

  not_passed : (p : ℕ) → p < length ls → wanted t1 t2 k1 k2 (get_or ls p no_lift) ≡ true
      → is_passed nand slot head (query_of t1 t2 k1 k2) ≡ false
  unfolding is_passed
  not_passed p h w =
      let r = in_range p h w in
      let s = in_span ls p b.lifts h in
      rw (
        count,
        low,
        high,
        le-ltb (stored (S.high_of (S.loads_of ls))) (stored k1) (omega arith),
        le-ltb (stored k2) (stored (S.low_of (S.loads_of ls))) (omega arith),
      )
      (go (ltb (stored k1) (stored k2)) refl r)
    where
      go : (t : Bool) → ltb (stored k1) (stored k2) ≡ t → (stored k1 ≤ load p) × (load p ≤ stored k2)
          → (not t && not (may_hold (sections_in (pages_of nand slot 29 2) (section_count (length ls))) (stored k1))) ≡ false
      go true e r = refl
      go false e r =
          let f = ltb-false (stored k1) (stored k2) e in
          let d : stored k1 ≡ load p = omega arith in
          rw (d, held p h)

  pub passed_none : is_passed nand slot head (query_of t1 t2 k1 k2) ≡ true → among t1 t2 k1 k2 ls ≡ []
  passed_none e = none_wanted t1 t2 k1 k2 ls (λ p h. go p h (wanted t1 t2 k1 k2 (get_or ls p no_lift)) refl)
    where
      go : (p : ℕ) → p < length ls → (t : Bool) → wanted t1 t2 k1 k2 (get_or ls p no_lift) ≡ t → t ≡ false
      go p h true w = sym e ∙ not_passed p h w
      go p h false w = refl
