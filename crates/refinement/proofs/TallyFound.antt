-- A tally on a history's world counts, by plate, the lifts that the paper log's search over all loads finds: each found row has
-- its lift's stored load. Assumes nothing.
use mathlib.Core.Path.{◌≡◌, refl, sym, ap, ap₂, ◌∙◌}
use mathlib.Core.Bool.{Bool, true, false, cond}
use mathlib.Core.List.{List, [], ◌∷◌, ◌++◌, map}
use Prim.Native.Nat.{ℕ}
use native.Mathlib.Omega.{arith}
use lib.Dec.{eqb}
use lib.IntN.{ℤ, pos, negsuc}
use lib.ListN.{length}
use borrow.Author.Tests.{eqb-true, le-ltb}
use Rattle.codec.proofs.Areas.{part_all}
use Rattle.lift.specs.Limits.{stored}
use Rattle.lift.specs.Record.{code_at}
use Rattle.lift.proofs.Codes.{within_limits}
use Rattle.lift.proofs.Records.{length_record, record_read}
use Rattle.plate.specs.Plate.{no_counts, counts_of}
use Rattle.tally.specs.Answers.{TallyAnswer, tally_answer, row_codes}
use Rattle.found.specs.Found.{found_rows}
use Rattle.bounds.specs.Grounds.{query_ground}
use Rattle.store.specs.World.{liveness_of}
use Rattle.questions.specs.Queries.{log_of, query_of, tally_outcome}
use Rattle.paper_log.specs.Calls as Paper
use Rattle.paper_log.specs.Log.{Lift, codes, wanted, among, joined, retained, found, row_of}
use Rattle.refinement.specs.Inner.Image.{History, image}
use Rattle.refinement.proofs.Good.{GoodLift, GoodLifts, AllBuilt, Good}
use Rattle.refinement.proofs.SearchStep.{window_ground, ground_is, found_if}

-- ---- the found lifts are good

good_append : (a b : List Lift) → GoodLifts a → GoodLifts b → GoodLifts (a ++ b)
good_append [] b p q = q
good_append (l ∷ a) b p q = (p.0, good_append a b p.1 q)

good_joined : (closed : List (List Lift)) → AllBuilt closed → GoodLifts (joined closed)
unfolding joined
good_joined [] b = tt
good_joined (ls ∷ rest) b = good_append ls (joined rest) b.0.lifts (good_joined rest b.1)

good_among : (t1 t2 : ℕ) (k1 k2 : ℤ) (ls : List Lift) → GoodLifts ls → GoodLifts (among t1 t2 k1 k2 ls)
unfolding among
good_among t1 t2 k1 k2 [] g = tt
good_among t1 t2 k1 k2 (l ∷ ls) g = go (wanted t1 t2 k1 k2 l) (good_among t1 t2 k1 k2 ls g.1)
  where
    go : (t : Bool) → GoodLifts (among t1 t2 k1 k2 ls) → GoodLifts (cond t (l ∷ among t1 t2 k1 k2 ls) (among t1 t2 k1 k2 ls))
    go true r = (g.0, r)
    go false r = r

pub good_retained : (h : History) → Good h → GoodLifts (retained h.log)
good_retained h g =
    good_append (joined h.log.closed) h.log.current (good_joined h.log.closed g.segments) g.segment.lifts

pub good_found : (h : History) → Good h → (t1 t2 : ℕ) (k1 k2 : ℤ) → GoodLifts (found h.log t1 t2 k1 k2)
unfolding found
good_found h g t1 t2 k1 k2 = good_among t1 t2 k1 k2 (retained h.log) (good_retained h g)

-- ---- the loads of their rows

pub row_code : (l : Lift) → GoodLift l → code_at (row_of l) 0 ≡ stored l.load
row_code l g =
    let n = length_record l.time (stored l.load) l.note g.note in
    let k = within_limits l.load g.load in
    (record_read l.time (stored l.load) l.note (omega (arith, g.time)) (omega (arith, k.high)) g.note (row_of l) 0
    (omega arith)
    (part_all (row_of l) 32 n)).code_is

pub row_codes_lem : (ls : List Lift) → GoodLifts ls → row_codes (map row_of ls) ≡ codes ls
row_codes_lem [] g = refl
row_codes_lem (l ∷ ls) g = ap₂ {C = List ℕ} ◌∷◌ (row_code l g.0) (row_codes_lem ls g.1)

-- ---- the tally

abbrev all_low : ℤ
all_low = negsuc 49999

abbrev all_high : ℤ
all_high = pos 100000

module _ (h : History) (g : Good h) (k t1 t2 : ℕ) where
  abbrev window : ℕ
  window = window_ground h k t1 t2 (negsuc 49999) (pos 100000)

  -- it "refuses as that would, ground 12 aside"
  tally_step : tally_outcome (image h) k t1 t2
      ≡ cond (eqb (window_ground h k t1 t2 (negsuc 49999) (pos 100000)) 0)
      (record { number = 0; counts = counts_of (codes (found h.log t1 t2 (negsuc 49999) (pos 100000))) })
      (record { number = window_ground h k t1 t2 (negsuc 49999) (pos 100000); counts = no_counts })
  unfolding tally_outcome tally_answer
  tally_step = rw (ground_is h g k t1 t2 all_low all_high) (go (eqb window 0) refl)
    where
      go : (t : Bool) → eqb window 0 ≡ t
          → cond t (tally_answer (found_rows (image h).nand (image h).nor (image h).state.page (log_of (image h).state k)
          (liveness_of (image h)) (query_of t1 t2 all_low all_high)))
          (record { number = window; counts = no_counts })
          ≡ cond t (record { number = 0; counts = counts_of (codes (found h.log t1 t2 all_low all_high)) })
          (record { number = window; counts = no_counts })
      go true e =
          rw (found_if h g k t1 t2 all_low all_high (eqb-true window 0 e))
          (ap {B = TallyAnswer} (λ (cs : List ℕ). record { number = 0; counts = counts_of cs })
          (row_codes_lem (found h.log t1 t2 all_low all_high) (good_found h g t1 t2 all_low all_high)))
      go false e = refl

-- ---- by the paper log's number

tally_number_lem : (h : History) (k t1 t2 : ℕ) → Paper.tally_number h.log k t1 t2 ≡ window_ground h k t1 t2 (negsuc 49999) (pos 100000)
unfolding Paper.tally_number Paper.number_of query_ground
tally_number_lem h k t1 t2 =
    let n : ℕ = length (found h.log t1 t2 (negsuc 49999) (pos 100000)) in
    rw (le-ltb n n (omega arith))

pub tally_is : (h : History) → Good h → (k t1 t2 : ℕ) → tally_outcome (image h) k t1 t2 ≡ record {
  number = Paper.tally_number h.log k t1 t2;
  counts = cond (eqb (Paper.tally_number h.log k t1 t2) 0) (counts_of (codes (Paper.all_loads h.log t1 t2))) no_counts;
}
tally_is h g k t1 t2 = rw (tally_number_lem h k t1 t2) (tally_step h g k t1 t2 ∙ go (window_ground h k t1 t2 (negsuc 49999) (pos 100000)) _ refl)
  where
    cs : List ℕ
    cs = counts_of (codes (Paper.all_loads h.log t1 t2))

    go : (n : ℕ) (t : Bool) → eqb n 0 ≡ t → ◌≡◌ {A = TallyAnswer} (cond t (record { number = 0; counts = cs }) (record { number = n; counts = no_counts }))
        (record { number = n; counts = cond t cs no_counts })
    go n true e = ap {B = TallyAnswer} (λ (m : ℕ). record { number = m; counts = cs }) (sym (eqb-true n 0 e))
    go n false e = refl
