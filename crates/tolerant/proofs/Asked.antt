-- Each return of a tolerant search is what the definition gives there: a ground of the state or of the window, or both lists. Assumes nothing.
use mathlib.Core.Path.{◌≡◌, refl, sym, ap, ◌∙◌}
use mathlib.Core.Bool.{true}
use mathlib.Core.Option.{Option, none, some}
use mathlib.Core.List.{List}
use Prim.Native.Nat.{ℕ, ◌≤◌}
use lib.IntN.{ℤ}
use lib.ListN.{length}
use borrow.Author.Tests.{ne_eqb}
use Rattle.lift.specs.Limits.{load_ok, stored}
use Rattle.form.specs.declared.Form.TheVariants.{New}
use Rattle.skiplist.specs.Skip.{serials_from}
use Rattle.visit.specs.declared.Log.{Log}
use Rattle.found.specs.Found.{found_rows}
use Rattle.store.specs.declared.State.{State}
use Rattle.store.specs.World.{world}
use Rattle.store.specs.Inner.Pieces.{bounds_ground}
use Rattle.store.proofs.Outcomes.{stands_not, stands}
use Rattle.questions.specs.Queries.{log_of}
use Rattle.questions.proofs.Asked.{loads_ok_lem}
use Rattle.tolerance.specs.declared.Ends.{Ends}
use Rattle.tolerance.specs.Tolerance.{low_end, high_end, certain_rows}
use Rattle.tolerance.specs.Grounds.{tolerance_ground}
use Rattle.tolerance.specs.Inner.Ends.{narrowed_ends, rows_in_ends}
use Rattle.tolerance.proofs.Grounds.{ground_window}
use Rattle.tolerance.proofs.ByEnds.{certain_rows_lem}
use Rattle.tolerant.specs.Answers.{TolerantAnswer, refused_both, listed_both, tolerant_answer}
use Rattle.tolerant.specs.Call.{tolerant_ground, widened_rows, tolerant_outcome}

-- ---- no ground of the window holds

pub record Window (k1 k2 : ℤ) (d : ℕ) : Type 0 where
  pub low : load_ok k1 ≡ true
  pub high : load_ok k2 ≡ true
  pub most : d ≤ 1000

pub window_ok : (t1 t2 : ℕ) (k1 k2 : ℤ) (d : ℕ) → tolerance_ground t1 t2 k1 k2 d ≡ 0 → Window k1 k2 d
window_ok t1 t2 k1 k2 d e =
    let w = ground_window t1 t2 k1 k2 d e in
    let l = loads_ok_lem t1 t2 k1 k2 w.0 in
    record { low = l.0; high = l.1; most = w.1 }

-- certain rows by the narrowed ends
by_ends : (k1 k2 : ℤ) (d : ℕ) → Window k1 k2 d → (e : Ends) → e ≡ narrowed_ends (stored k1) (stored k2) d
    → (certain possible : List ℕ) (o : Option (List (List ℕ)))
    → tolerant_answer (rows_in_ends e) certain possible o ≡ tolerant_answer (certain_rows k1 k2 d) certain possible o
unfolding tolerant_answer
by_ends k1 k2 d w e is certain possible none = refl
by_ends k1 k2 d w e is certain possible (some rows) =
    let same : rows_in_ends e rows ≡ certain_rows k1 k2 d rows = rw is (sym (certain_rows_lem k1 k2 d w.low w.high rows)) in
    ap (λ (x : List (List ℕ)). listed_both certain possible x rows) same

-- ---- the returns

module _ (nand nor : List ℕ) (s : State) (slots n : ℕ) (judged : n ≡ bounds_ground New s 0 (length nand) (length nor) slots)
    (t1 t2 : ℕ) (k1 k2 : ℤ) (d : ℕ) (certain possible : List ℕ) where
  pub bounds_refused : (n ≡ 0 → ⊥)
      → refused_both n certain possible ≡ tolerant_outcome (world nand nor s) slots t1 t2 k1 k2 d certain possible
  unfolding tolerant_outcome tolerant_ground
  bounds_refused h = rw (← stands_not nand nor s slots n judged (tolerance_ground t1 t2 k1 k2 d) h, ne_eqb n 0 h)

  module _ (z : n ≡ 0) (m : ℕ) (window : m ≡ tolerance_ground t1 t2 k1 k2 d) where
    ground_is : m ≡ tolerant_ground (world nand nor s) slots t1 t2 k1 k2 d
    unfolding tolerant_ground
    ground_is = stands nand nor s slots n judged (tolerance_ground t1 t2 k1 k2 d) m z window

    pub window_refused : (m ≡ 0 → ⊥)
        → refused_both m certain possible ≡ tolerant_outcome (world nand nor s) slots t1 t2 k1 k2 d certain possible
    unfolding tolerant_outcome
    window_refused h = rw (← ground_is, ne_eqb m 0 h)

    -- g, the page and the ends as the code has them
    pub both_listed : m ≡ 0 → (g : Log) (page : List ℕ) → g ≡ log_of s slots → page ≡ s.page → (low high : ℕ) → low ≡ stored (low_end k1 d)
        → high ≡ stored (high_end k2 d) → (e : Ends) → e ≡ narrowed_ends (stored k1) (stored k2) d → (a : TolerantAnswer)
        → a ≡ tolerant_answer (rows_in_ends e) certain possible
        (found_rows nand nor page g (serials_from g.oldest) (record { t1 = t1; t2 = t2; k1 = low; k2 = high }))
        → a ≡ tolerant_outcome (world nand nor s) slots t1 t2 k1 k2 d certain possible
    unfolding tolerant_outcome widened_rows
    both_listed f g page g-is page_is low high low_is high_is e e-is a made =
        rw (← ground_is, f)
        (made ∙ by_ends k1 k2 d (window_ok t1 t2 k1 k2 d (sym window ∙ f)) e e-is certain possible _ ∙ rw (g-is, page_is, low_is, high_is))
