-- A search over all times and loads of a history's world is not refused and finds every retained lift: an accepted lift is within the
-- limits. So does a tally over all times. Assumes nothing.
use mathlib.Core.Path.{◌≡◌, refl, ap, ap₂, ◌∙◌}
use mathlib.Core.Bool.{Bool, true, false, cond, ◌&&◌}
use mathlib.Core.Option.{some}
use mathlib.Core.List.{List, [], ◌∷◌, ◌++◌, map}
use Prim.Native.Nat.{ℕ}
use native.Mathlib.Omega.{arith}
use lib.Dec.{eqb, leb, leb-zero}
use borrow.Author.Tests.{eq-eqb, le-leb}
use Rattle.codec.proofs.Truth.{and_both}
use Rattle.lift.specs.Limits.{time_limit, load_least, load_most, load_ok}
use Rattle.bounds.specs.Grounds.{query_ground}
use Rattle.plate.specs.Plate.{counts_of, no_counts}
use Rattle.tally.specs.Answers.{TallyAnswer, tally_answer}
use Rattle.found.specs.Found.{found_rows}
use Rattle.store.specs.World.{liveness_of}
use Rattle.questions.specs.Queries.{log_of, query_of, search_ground, tally_outcome}
use Rattle.paper_log.specs.Log.{Lift, codes, wanted, among, joined, retained, found, row_of}
use Rattle.refinement.specs.Inner.Image.{History, image}
use Rattle.refinement.proofs.Good.{GoodLift, GoodLifts, AllBuilt, Good}
use Rattle.refinement.proofs.Wanted.{among_append}
use Rattle.refinement.proofs.SearchStep.{window_ground, ground_is, found_if}
use Rattle.refinement.proofs.TallyFound.{row_codes_lem, good_retained}

-- ---- every lift is wanted

abbrev all : List Lift → List Lift
all ls = among 0 time_limit load_least load_most ls

lift_wanted : (l : Lift) → GoodLift l → wanted 0 time_limit load_least load_most l ≡ true
lift_wanted l g =
    and_both (leb 0 l.time && leb l.time time_limit) (load_ok l.load)
    (and_both (leb 0 l.time) (leb l.time time_limit) (leb-zero l.time) (le-leb l.time time_limit g.time))
    g.load

lifts_wanted : (ls : List Lift) → GoodLifts ls → all ls ≡ ls
unfolding among
lifts_wanted [] g = refl
lifts_wanted (l ∷ ls) g = go (wanted 0 time_limit load_least load_most l) (lift_wanted l g.0) (lifts_wanted ls g.1)
  where
    go : (t : Bool) → t ≡ true → all ls ≡ ls → cond t (l ∷ all ls) (all ls) ≡ l ∷ ls
    go true e ih = ap (λ (x : List Lift). l ∷ x) ih
    go false e ih = let z : ◌≡◌ {A = ℕ} 0 1 = cc in absurd (omega arith)

segments_wanted : (closed : List (List Lift)) → AllBuilt closed → all (joined closed) ≡ joined closed
unfolding joined among
segments_wanted [] b = refl
segments_wanted (ls ∷ rest) b =
    among_append 0 time_limit load_least load_most ls (joined rest)
    ∙ ap₂ {C = List Lift} (λ a c. a ++ c) (lifts_wanted ls b.0.lifts) (segments_wanted rest b.1)

-- ---- of a history's world

module _ (h : History) (g : Good h) where
  all_found : found h.log 0 time_limit load_least load_most ≡ retained h.log
  unfolding found
  all_found =
      among_append 0 time_limit load_least load_most (joined h.log.closed) h.log.current
      ∙ ap₂ {C = List Lift} (λ a c. a ++ c) (segments_wanted h.log.closed g.segments)
      (lifts_wanted h.log.current g.segment.lifts)

  passes : window_ground h h.log.slots 0 time_limit load_least load_most ≡ 0
  unfolding query_ground
  passes = rw (eq-eqb h.log.slots h.log.slots refl)

  pub no_ground : search_ground (image h) h.log.slots 0 time_limit load_least load_most ≡ 0
  no_ground = ground_is h g h.log.slots 0 time_limit load_least load_most ∙ passes

  pub all_rows_lem : found_rows (image h).nand (image h).nor (image h).state.page (log_of (image h).state h.log.slots) (liveness_of (image h))
      (query_of 0 time_limit load_least load_most)
      ≡ some (map row_of (retained h.log))
  all_rows_lem = found_if h g h.log.slots 0 time_limit load_least load_most passes ∙ ap (λ (ls : List Lift). some (map row_of ls)) all_found

  -- a tally of all that it holds
  pub whole_tally : tally_outcome (image h) h.log.slots 0 time_limit ≡ record { number = 0; counts = counts_of (codes (retained h.log)) }
  unfolding tally_outcome tally_answer
  whole_tally =
      ap₂ {C = TallyAnswer} (λ n rows. cond (eqb n 0) (tally_answer rows) (record { number = n; counts = no_counts })) no_ground all_rows_lem
      ∙ ap {B = TallyAnswer} (λ (cs : List ℕ). record { number = 0; counts = counts_of cs }) (row_codes_lem (retained h.log) (good_retained h g))
