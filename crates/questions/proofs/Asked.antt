-- Grounds 1 to 6 of a search and of a tally as tested, what is known where none holds, and each return of the two. Assumes nothing.
use mathlib.Core.Path.{◌≡◌, refl, sym, subst, ◌∙◌}
use mathlib.Core.Bool.{true, not, ◌&&◌, ◌||◌}
use mathlib.Core.List.{List, [], ◌∷◌}
use Prim.Native.Nat.{ℕ, zero, suc, ◌≤◌}
use Rattle.std.specs.Prelude.{Err}
use Rattle.grounds.specs.declared.Ground.{Ground}
use Rattle.grounds.specs.Numbers.{number_of}
use Rattle.grounds.proofs.Numbers.{number_some}
use native.Mathlib.Omega.{arith}
use lib.Dec.{ltb}
use lib.IntN.{ℤ, pos, negsuc}
use lib.ListN.{length}
use lib.Signed.{lt_z}
use borrow.Author.Tests.{ne_eqb, not-false}
use Rattle.codec.proofs.Truth.{and_left, and_right}
use Rattle.lift.specs.Limits.{time_ok, load_ok, stored}
use Rattle.form.specs.declared.Form.{Form}
use Rattle.form.specs.declared.Form.TheVariants.{New}
use Rattle.skiplist.specs.declared.Pointer.{Pointer}
use Rattle.skiplist.specs.Skip.{serials_from, in_slots}
use Rattle.visit.specs.declared.Log.{Log}
use Rattle.visit.specs.declared.Query.{Query}
use Rattle.visit.specs.Inner.Sound.{InSlots, LogSound}
use Rattle.found.specs.Found.{found_rows}
use Rattle.found.specs.Pages.{pages_read}
use Rattle.search.specs.Answers.{SearchAnswer, refused_answer, search_answer}
use Rattle.tally.specs.Answers as Tallies
use Rattle.tally.specs.Answers.{TallyAnswer, tally_answer}
use Rattle.bounds.specs.Grounds.{ground, nand_bad, nor_bad, query_ground}
use Rattle.bounds.proofs.Within as Within
use Rattle.store.specs.declared.State.{State}
use Rattle.store.specs.Bounds.{heads_ok, within_bounds}
use Rattle.store.specs.World.{world}
use Rattle.store.specs.Inner.Pieces.{bounds_ground}
use Rattle.questions.specs.Queries.{log_of, query_of, search_ground, search_outcome, tally_outcome}
use Rattle.store.proofs.Rows.{row, row_none}
use Rattle.store.proofs.Grounds.{standing_in}
use Rattle.store.proofs.Outcomes.{stands_not, stands}

-- ---- grounds 1 to 3 do not hold

heads_in : (slots : ℕ) (ps : List Pointer) → heads_ok ps slots ≡ true → InSlots slots ps
unfolding heads_ok
heads_in slots [] e k = refl
heads_in slots (p ∷ ps) e zero = and_left (in_slots p slots) (heads_ok ps slots) e
heads_in slots (p ∷ ps) e (suc k) = heads_in slots ps (and_right (in_slots p slots) (heads_ok ps slots) e) k

-- in either form, whatever grounds come later
pub sound_in : (f : Form) (s : State) (live : ℕ) (nand nor : List ℕ) (slots later : ℕ)
    → row (nand_bad (length nand) slots) (nor_bad (length nor)) (not (within_bounds f s live slots)) later ≡ 0
    → LogSound nand nor (log_of s slots)
sound_in f s live nand nor slots later e =
    let r = row_none (nand_bad (length nand) slots) (nor_bad (length nor)) (not (within_bounds f s live slots)) later e in
    let st = standing_in f s live (length nand) (length nor) slots r.0 in
    record {
      nand_size = st.chips.nand_size;
      nor_size = st.chips.nor_size;
      slots_some = omega (arith, st.chips.least);
      current_some = omega (arith, st.serials.first, st.serials.rising);
      most = st.counts.lifts;
      buckets_most_lem = st.counts.few;
      heads_in = heads_in slots s.heads st.heads;
    }

module _ (nand nor : List ℕ) (s : State) (slots n : ℕ) (judged : n ≡ bounds_ground New s 0 (length nand) (length nor) slots) where
  -- what a search of a log asks, g being the state's
  pub log_sound : n ≡ 0 → (g : Log) → g ≡ log_of s slots → LogSound nand nor g
  unfolding bounds_ground
  log_sound z g e = subst (LogSound nand nor) (sym e) (sound_in New s 0 nand nor slots 0 (sym judged ∙ z))

  pub slots_most_lem : n ≡ 0 → (g : Log) → g ≡ log_of s slots → g.slots ≤ 4096
  unfolding bounds_ground
  slots_most_lem z g e =
      let r = row_none (nand_bad (length nand) slots) (nor_bad (length nor)) (not (within_bounds New s 0 slots)) 0 (sym judged ∙ z) in
      rw e (standing_in New s 0 (length nand) (length nor) slots r.0).chips.most

  -- ---- grounds 1 to 6

  module _ (t1 t2 : ℕ) (k1 k2 : ℤ) where
    pub ground_bounds : (n ≡ 0 → ⊥) → n ≡ search_ground (world nand nor s) slots t1 t2 k1 k2
    unfolding search_ground
    ground_bounds h = stands_not nand nor s slots n judged (query_ground t1 t2 k1 k2) h

    pub ground_query : (m : ℕ) → n ≡ 0 → m ≡ query_ground t1 t2 k1 k2 → m ≡ search_ground (world nand nor s) slots t1 t2 k1 k2
    unfolding search_ground
    ground_query m z f = stands nand nor s slots n judged (query_ground t1 t2 k1 k2) m z f

-- grounds 4 to 6 do not hold
pub loads_ok_lem : (t1 t2 : ℕ) (k1 k2 : ℤ) → query_ground t1 t2 k1 k2 ≡ 0 → (load_ok k1 ≡ true) × (load_ok k2 ≡ true)
unfolding query_ground
loads_ok_lem t1 t2 k1 k2 e =
    let times = not (time_ok t1 && time_ok t2) in
    let loads = not (load_ok k1 && load_ok k2) in
    let more = ground 6 (ltb t2 t1 || lt_z k2 k1) 0 in
    let f = Within.ground_rest 4 times (ground 5 loads more) (λ z. omega arith) e in
    let ok = not-false (load_ok k1 && load_ok k2) (Within.ground_not 5 loads more (λ z. omega arith) f) in
    (and_left (load_ok k1) (load_ok k2) ok, and_right (load_ok k1) (load_ok k2) ok)

-- ---- the returns of a search

module _ (nand nor : List ℕ) (s : State) (slots t1 t2 : ℕ) (k1 k2 : ℤ) (area : List ℕ) where
  search_refused : (x : Ground) → number_of x ≡ search_ground (world nand nor s) slots t1 t2 k1 k2
      → refused_answer (number_of x) area ≡ search_outcome (world nand nor s) slots t1 t2 k1 k2 area
  unfolding search_outcome
  search_refused x judged = rw (← judged, ne_eqb (number_of x) 0 (λ z. omega (arith, number_some x)))

  -- by grounds 1 to 3
  pub search_stopped : (x : Ground) → number_of x ≡ bounds_ground New s 0 (length nand) (length nor) slots
      → refused_answer (number_of x) area ≡ search_outcome (world nand nor s) slots t1 t2 k1 k2 area
  search_stopped x judged =
      search_refused x (ground_bounds nand nor s slots (number_of x) judged t1 t2 k1 k2 (λ z. omega (arith, number_some x)))

  module _ (judged : 0 ≡ bounds_ground New s 0 (length nand) (length nor) slots) where
    -- by grounds 4 to 6
    pub search_barred : (x : Ground) → number_of x ≡ query_ground t1 t2 k1 k2
        → refused_answer (number_of x) area ≡ search_outcome (world nand nor s) slots t1 t2 k1 k2 area
    search_barred x e = search_refused x (ground_query nand nor s slots 0 judged t1 t2 k1 k2 (number_of x) refl e)

    -- g and the page as the code has them
    pub search_done : 0 ≡ query_ground t1 t2 k1 k2 → (g : Log) (page : List ℕ) (q : Query) → g ≡ log_of s slots → page ≡ s.page
        → q ≡ query_of t1 t2 k1 k2 → (a : SearchAnswer)
        → a ≡ search_answer area (pages_read nand g (serials_from g.oldest) q) (found_rows nand nor page g (serials_from g.oldest) q)
        → a ≡ search_outcome (world nand nor s) slots t1 t2 k1 k2 area
    unfolding search_outcome
    search_done z g page q e p is a f =
        let j = ground_query nand nor s slots 0 judged t1 t2 k1 k2 0 refl z in
        rw (← j) (f ∙ rw (e, p, is))

-- ---- the returns of a tally: all loads

module _ (nand nor : List ℕ) (s : State) (slots t1 t2 : ℕ) where
  tally_refused : (x : Ground) → number_of x ≡ search_ground (world nand nor s) slots t1 t2 (negsuc 49999) (pos 100000)
      → Tallies.answer_of (Err x) ≡ tally_outcome (world nand nor s) slots t1 t2
  unfolding tally_outcome
  tally_refused x judged = rw (← judged, ne_eqb (number_of x) 0 (λ z. omega (arith, number_some x)))

  pub tally_stopped : (x : Ground) → number_of x ≡ bounds_ground New s 0 (length nand) (length nor) slots
      → Tallies.answer_of (Err x) ≡ tally_outcome (world nand nor s) slots t1 t2
  tally_stopped x judged =
      tally_refused x
      (ground_bounds nand nor s slots (number_of x) judged t1 t2 (negsuc 49999) (pos 100000) (λ z. omega (arith, number_some x)))

  module _ (judged : 0 ≡ bounds_ground New s 0 (length nand) (length nor) slots) where
    pub tally_barred : (x : Ground) → number_of x ≡ query_ground t1 t2 (negsuc 49999) (pos 100000)
        → Tallies.answer_of (Err x) ≡ tally_outcome (world nand nor s) slots t1 t2
    tally_barred x e = tally_refused x (ground_query nand nor s slots 0 judged t1 t2 (negsuc 49999) (pos 100000) (number_of x) refl e)

    pub tally_done : 0 ≡ query_ground t1 t2 (negsuc 49999) (pos 100000) → (g : Log) (page : List ℕ) (q : Query) → g ≡ log_of s slots
        → page ≡ s.page → q ≡ query_of t1 t2 (negsuc 49999) (pos 100000) → (a : TallyAnswer)
        → a ≡ tally_answer (found_rows nand nor page g (serials_from g.oldest) q)
        → a ≡ tally_outcome (world nand nor s) slots t1 t2
    unfolding tally_outcome
    tally_done z g page q e p is a f =
        let j = ground_query nand nor s slots 0 judged t1 t2 (negsuc 49999) (pos 100000) 0 refl z in
        rw (← j) (f ∙ rw (e, p, is))
