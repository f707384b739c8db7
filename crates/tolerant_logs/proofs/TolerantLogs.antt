-- A tolerant search of a store that is reached from a format (document 02, W-209), in either form: it answers as the paper log does, with both
-- lists of its retained lifts; damage is never met. Assumes nothing.
use mathlib.Core.Path.{◌≡◌, refl, ap, ◌∙◌}
use mathlib.Core.Bool.{Bool, true, false, cond, not}
use mathlib.Core.Option.{some}
use mathlib.Core.List.{List, map}
use Prim.Native.Nat.{ℕ, ◌≤◌}
use lib.Dec.{eqb}
use lib.IntN.{ℤ}
use borrow.Author.Tests.{eqb-true}
use Rattle.bounds.specs.Grounds.{ground}
use Rattle.form.specs.declared.Form.{Form}
use Rattle.store.specs.World.{World}
use Rattle.store.specs.Calls.{format_outcome}
use Rattle.paper_log.specs.Log.{Log, begun, retained, found, row_of}
use Rattle.paper_log.specs.Calls as Paper
use Rattle.refinement.specs.Inner.Image.{History, image}
use Rattle.refinement.specs.Run.{Request, call_of, run_after, AllTyped}
use Rattle.refinement.proofs.Good.{Good}
use Rattle.refinement.proofs.Grounds.{state_passes}
use Rattle.refinement.proofs.SearchFound.{search_found}
use Rattle.refinement.proofs.Steps.{first_zero, passed}
use Rattle.refinement.proofs.TallyFound.{good_retained}
use Rattle.round_trips.specs.Reaches.{Chips, Reaches}
use Rattle.round_trips.proofs.Known.{known}
use Rattle.round_trips.proofs.RoundTrips.{after_calls}
use Rattle.tolerance.specs.Tolerance.{low_end, high_end, certain_rows}
use Rattle.tolerance.specs.Grounds.{tolerance_ground}
use Rattle.tolerance.proofs.ByEnds.{low_end_ok, high_end_ok}
use Rattle.tolerant.specs.Answers.{refused_both, listed_both, tolerant_answer}
use Rattle.tolerant.specs.Call.{tolerant_ground, widened_rows, tolerant_outcome}
use Rattle.tolerant.proofs.Asked.{window_ok}
use Rattle.tolerant_logs.specs.TolerantLog.{certain_lifts, possible_lifts, tolerant_of_log}
use Rattle.tolerant_logs.proofs.Lists.{among_possible, certain_among}

-- ---- of a history's world

module _ (h : History) (good : Good h) (slots t1 t2 : ℕ) (k1 k2 : ℤ) (d : ℕ) (certain_area possible_area : List ℕ) where
  abbrev own : ℕ
  own = ground 1 (not (eqb slots h.log.slots)) (tolerance_ground t1 t2 k1 k2 d)

  ground_is : tolerant_ground (image h) slots t1 t2 k1 k2 d ≡ own
  unfolding tolerant_ground
  ground_is = state_passes h good slots (tolerance_ground t1 t2 k1 k2 d)

  rows_are : own ≡ 0 → widened_rows (image h) slots t1 t2 k1 k2 d ≡ some (map row_of (possible_lifts h.log t1 t2 k1 k2 d))
  unfolding widened_rows possible_lifts found
  rows_are e =
      let z = first_zero 0 (not (eqb slots h.log.slots)) (tolerance_ground t1 t2 k1 k2 d) e in
      let same : slots ≡ h.log.slots = eqb-true slots h.log.slots (passed _ z.0) in
      let w = window_ok t1 t2 k1 k2 d z.1 in
      rw same (search_found h good t1 t2 (low_end k1 d) (high_end k2 d) (low_end_ok k1 d w.low) (high_end_ok k2 d w.high))
      ∙ ap (λ ls. some (map row_of ls)) (among_possible t1 t2 k1 k2 d (retained h.log) (good_retained h good))

  certain_are : certain_rows k1 k2 d (map row_of (possible_lifts h.log t1 t2 k1 k2 d)) ≡ map row_of (certain_lifts h.log t1 t2 k1 k2 d)
  unfolding possible_lifts certain_lifts
  certain_are = certain_among t1 t2 k1 k2 d (retained h.log) (good_retained h good)

  pub history_answers : tolerant_outcome (image h) slots t1 t2 k1 k2 d certain_area possible_area
      ≡ tolerant_of_log h.log slots t1 t2 k1 k2 d certain_area possible_area
  unfolding tolerant_outcome tolerant_of_log tolerant_answer
  history_answers = rw ground_is (go (eqb own 0) refl)
    where
      go : (t : Bool) → eqb own 0 ≡ t
          → cond t (tolerant_answer (certain_rows k1 k2 d) certain_area possible_area (widened_rows (image h) slots t1 t2 k1 k2 d))
          (refused_both own certain_area possible_area)
          ≡ cond t (listed_both certain_area possible_area (map row_of (certain_lifts h.log t1 t2 k1 k2 d))
          (map row_of (possible_lifts h.log t1 t2 k1 k2 d)))
          (refused_both own certain_area possible_area)
      go true e =
          rw (rows_are (eqb-true own 0 e))
          (ap (λ (x : List (List ℕ)). listed_both certain_area possible_area x (map row_of (possible_lifts h.log t1 t2 k1 k2 d))) certain_are)
      go false e = refl

-- ---- of every store that formats, calls and conversions lead to

module _ (slots : ℕ) (least : 2 ≤ slots) (most : slots ≤ 4096) where
  module _ {w : World} {g : Log} (r : Reaches slots w g) (s t1 t2 : ℕ) (k1 k2 : ℤ) (d : ℕ) (certain_area possible_area : List ℕ) where
    pub tolerant_reached : tolerant_outcome w s t1 t2 k1 k2 d certain_area possible_area ≡ tolerant_of_log g s t1 t2 k1 k2 d certain_area possible_area
    tolerant_reached =
        let k = known slots least most r in
        ap (λ (x : World). tolerant_outcome x s t1 t2 k1 k2 d certain_area possible_area) k.world
        ∙ history_answers k.history k.good s t1 t2 k1 k2 d certain_area possible_area
        ∙ ap (λ (x : Log). tolerant_of_log x s t1 t2 k1 k2 d certain_area possible_area) k.log

  -- after an accepted format and any list of calls
  pub tolerant_of_calls : (v : Form) (nand nor : List ℕ) → Chips slots nand nor → (calls : List Request) → AllTyped calls
      → (s t1 t2 : ℕ) (k1 k2 : ℤ) (d : ℕ) (certain_area possible_area : List ℕ)
      → tolerant_outcome (run_after (format_outcome v nand nor slots).world calls) s t1 t2 k1 k2 d certain_area possible_area
      ≡ tolerant_of_log (Paper.log_after (begun v slots) (map call_of calls)) s t1 t2 k1 k2 d certain_area possible_area
  tolerant_of_calls v nand nor chips calls typed = tolerant_reached (after_calls slots v nand nor chips calls typed)
