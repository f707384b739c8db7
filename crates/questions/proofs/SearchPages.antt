-- The pages read by a search (document 02, W-207), for any chips, any state and any arguments: none where it is refused, else those of the
-- definition, at most two Bloom pages and nine tree pages for each closed segment from the one found on. Assumes nothing.
use mathlib.Core.Path.{◌≡◌, refl}
use mathlib.Core.Bool.{Bool, true, false, cond}
use mathlib.Core.Option.{Option, none, some}
use mathlib.Core.List.{List}
use Prim.Native.Nat.{ℕ, ◌*◌, ◌≤◌}
use native.Mathlib.Omega.{arith}
use lib.Dec.{eqb, ltb}
use lib.IntN.{ℤ}
use lib.ListN.{length}
use borrow.Author.Tests.{eqb-true, eqb-false}
use Rattle.codec.specs.Area.{splice}
use Rattle.lift.specs.Rows.{whole_rows}
use Rattle.bounds.specs.Grounds.{query_ground}
use Rattle.found.specs.Found.{found_rows}
use Rattle.found.specs.declared.Pages.{Pages}
use Rattle.found.specs.Pages.{Read, no_pages, pages_read, segments_read}
use Rattle.found.proofs.PagesMost.{segments_few}
use Rattle.search.specs.Answers.{SearchAnswer, refused_answer, row_bytes, search_answer}
use Rattle.store.specs.World.{World, liveness_of}
use Rattle.questions.specs.Queries.{log_of, query_of, search_ground, search_outcome}
use Rattle.questions.proofs.Asked.{sound_in}

module _ (w : World) (slots t1 t2 : ℕ) (k1 k2 : ℤ) (area : List ℕ) where
  abbrev outcome : SearchAnswer
  outcome = search_outcome w slots t1 t2 k1 k2 area

  abbrev ground : ℕ
  ground = search_ground w slots t1 t2 k1 k2

  abbrev rows_found : Option (List (List ℕ))
  rows_found = found_rows w.nand w.nor w.state.page (log_of w.state slots) (liveness_of w) (query_of t1 t2 k1 k2)

  abbrev pages : Pages
  pages = pages_read w.nand (log_of w.state slots) (liveness_of w) (query_of t1 t2 k1 k2)

  -- the closed segments from the one found on
  abbrev pub segments_of : List Read
  segments_of = segments_read w.nand (log_of w.state slots) (liveness_of w) (query_of t1 t2 k1 k2)

  -- a search is refused, or has rows
  pub search_cases : (P : SearchAnswer → Type 0) → ((n : ℕ) → (n ≡ 0 → ⊥) → P (refused_answer n area))
      → (ground ≡ 0 → (rows : List (List ℕ)) → P (record { number = 0; count = length rows; pages = pages; area = splice area 0 (row_bytes rows) }))
      → P (search_outcome w slots t1 t2 k1 k2 area)
  unfolding search_outcome search_answer
  search_cases P refused accepted = go (eqb ground 0) refl
    where
      fitting : ground ≡ 0 → (rows : List (List ℕ)) (b : Bool) → P (cond b (refused_answer 12 area)
          (record { number = 0; count = length rows; pages = pages; area = splice area 0 (row_bytes rows) }))
      fitting z rows true = refused 12 (λ t. omega arith)
      fitting z rows false = accepted z rows

      answered : ground ≡ 0 → (o : Option (List (List ℕ))) → P (search_answer area pages o)
      answered z none = refused 10 (λ t. omega arith)
      answered z (some rows) = fitting z rows (ltb (whole_rows area) (length rows))

      go : (t : Bool) → eqb ground 0 ≡ t → P (cond t (search_answer area pages rows_found) (refused_answer ground area))
      go true e = answered (eqb-true ground 0 e) rows_found
      go false e = refused ground (eqb-false ground 0 e)

  -- an accepted one has passed its grounds
  pub ground_passes : outcome.number ≡ 0 → search_ground w slots t1 t2 k1 k2 ≡ 0
  ground_passes = search_cases (λ a. a.number ≡ 0 → ground ≡ 0) (λ n h z. absurd (h z)) (λ z rows k. z)

  -- a refused search has no pages; an accepted one has those of the definition, its header pages the moves of the walk
  pub pages_refused : (outcome.number ≡ 0 → ⊥) → outcome.pages ≡ no_pages
  pages_refused =
      search_cases (λ a. (a.number ≡ 0 → ⊥) → a.pages ≡ no_pages) (λ n h k. refl) (λ z rows k. absurd (k refl))

  pub pages_accepted : outcome.number ≡ 0 → outcome.pages ≡ pages_read w.nand (log_of w.state slots) (liveness_of w) (query_of t1 t2 k1 k2)
  pages_accepted = search_cases (λ a. a.number ≡ 0 → a.pages ≡ pages) (λ n h z. absurd (h z)) (λ z rows k. refl)

  pub pages_most : (outcome.pages.bloom ≤ 2 * length segments_of) × (outcome.pages.tree ≤ 9 * length segments_of)
  unfolding search_ground pages_read
  pages_most =
      search_cases (λ a. (a.pages.bloom ≤ 2 * length segments_of) × (a.pages.tree ≤ 9 * length segments_of))
      (λ n h. (omega arith, omega arith))
      (λ z rows.
      let sound = sound_in w.form w.state w.live w.nand w.nor slots (query_ground t1 t2 k1 k2) z in
      let f = segments_few w.nand w.nor (log_of w.state slots) (liveness_of w) (query_of t1 t2 k1 k2) sound in
      (f.bloom, f.tree))
