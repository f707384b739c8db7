-- The returns of a call for pairs: a refusal for grounds 1 to 3 of either store, else the answer of both logs. Assumes nothing.
use mathlib.Core.Path.{◌≡◌, refl, ◌∙◌}
use mathlib.Core.List.{List}
use Prim.Native.Nat.{ℕ}
use native.Mathlib.Decide.{ℕ_discrete}
use lib.ListN.{length}
use borrow.Author.Tests.{ne_eqb}
use Rattle.bounds.specs.Grounds.{sooner, query_ground}
use Rattle.form.specs.declared.Form.TheVariants.{New}
use Rattle.lift.specs.Limits.{time_limit, load_least, load_most}
use Rattle.skiplist.specs.Skip.{serials_from}
use Rattle.visit.specs.declared.Log.{Log}
use Rattle.found.specs.Found.{found_rows}
use Rattle.store.specs.declared.State.{State}
use Rattle.store.specs.World.{world}
use Rattle.store.specs.Inner.Pieces.{bounds_ground}
use Rattle.questions.specs.Queries.{log_of, query_of, search_ground}
use Rattle.questions.proofs.Asked.{ground_bounds, ground_query}
use Rattle.pairs.specs.Answers.{PairsAnswer, refused_pairs, pairs_answer}
use Rattle.pairs.specs.Call.{whole_ground, whole_log, pairs_outcome}

-- grounds 4 to 6 never hold over all times and loads
all_in : 0 ≡ query_ground 0 time_limit load_least load_most
unfolding query_ground
all_in = refl

pub whole_ground_lem : (nand nor : List ℕ) (s : State) (slots n : ℕ) → n ≡ bounds_ground New s 0 (length nand) (length nor) slots
    → n ≡ whole_ground (world nand nor s) slots
unfolding whole_ground
whole_ground_lem nand nor s slots n judged = go (ℕ_discrete n 0)
  where
    go : Dec (n ≡ 0) → n ≡ search_ground (world nand nor s) slots 0 time_limit load_least load_most
    go (yes z) = z ∙ ground_query nand nor s slots n judged 0 time_limit load_least load_most 0 z all_in
    go (no f) = ground_bounds nand nor s slots n judged 0 time_limit load_least load_most f

module _ (nand1 nor1 : List ℕ) (s1 : State) (slots1 n1 : ℕ) (judged1 : n1 ≡ bounds_ground New s1 0 (length nand1) (length nor1) slots1)
    (nand2 nor2 : List ℕ) (s2 : State) (slots2 n2 : ℕ) (judged2 : n2 ≡ bounds_ground New s2 0 (length nand2) (length nor2) slots2)
    (area : List ℕ) (n : ℕ) (n_is : n ≡ sooner n1 n2) where
  first_ground : n ≡ sooner (whole_ground (world nand1 nor1 s1) slots1) (whole_ground (world nand2 nor2 s2) slots2)
  first_ground = rw (← whole_ground_lem nand1 nor1 s1 slots1 n1 judged1, ← whole_ground_lem nand2 nor2 s2 slots2 n2 judged2) n_is

  pub pairs_refused : (n ≡ 0 → ⊥) → refused_pairs n area ≡ pairs_outcome (world nand1 nor1 s1) slots1 (world nand2 nor2 s2) slots2 area
  unfolding pairs_outcome
  pairs_refused h = rw (← first_ground, ne_eqb n 0 h)

  pub pairs_done : n ≡ 0 → (g1 g2 : Log) (page1 page2 : List ℕ) → g1 ≡ log_of s1 slots1 → page1 ≡ s1.page → g2 ≡ log_of s2 slots2 → page2 ≡ s2.page
      → (a : PairsAnswer)
      → a ≡ pairs_answer area (found_rows nand1 nor1 page1 g1 (serials_from g1.oldest) (query_of 0 time_limit load_least load_most))
      (found_rows nand2 nor2 page2 g2 (serials_from g2.oldest) (query_of 0 time_limit load_least load_most))
      → a ≡ pairs_outcome (world nand1 nor1 s1) slots1 (world nand2 nor2 s2) slots2 area
  unfolding pairs_outcome whole_log
  pairs_done z g1 g2 page1 page2 e1 p1 e2 p2 a f = rw (← first_ground, z) (f ∙ rw (e1, p1, e2, p2))
