-- A search on a history's world replies what the paper log answers: its number, and where that is 0 the found lifts' rows in
-- front of the result area. Assumes nothing.
use mathlib.Core.Path.{◌≡◌, refl, sym, ap, ◌∙◌}
use mathlib.Core.Bool.{Bool, true, false, cond, not, ◌&&◌, ◌||◌}
use mathlib.Core.Option.{some}
use mathlib.Core.List.{List, map}
use Prim.Native.Nat.{ℕ, ◌/◌}
use lib.Dec.{eqb, ltb}
use lib.IntN.{ℤ}
use lib.ListN.{length, length-map}
use lib.Signed.{lt_z}
use borrow.Author.Tests.{eqb-true}
use Rattle.codec.specs.Area.{splice}
use Rattle.codec.proofs.Truth.{and_parts}
use Rattle.bounds.specs.Grounds.{query_ground}
use Rattle.lift.specs.Limits.{time_ok, load_ok}
use Rattle.found.specs.declared.Pages.{Pages}
use Rattle.found.specs.Found.{found_rows}
use Rattle.found.specs.Pages.{pages_read}
use Rattle.search.specs.Answers.{refused_answer, search_answer, row_bytes}
use Rattle.store.specs.World.{liveness_of}
use Rattle.questions.specs.Queries.{log_of, query_of, search_ground, search_outcome}
use Rattle.paper_log.specs.Log.{found, row_of}
use Rattle.paper_log.specs.Calls as Paper
use Rattle.refinement.specs.Inner.Image.{History, image}
use Rattle.refinement.specs.Run.{Reply, searched}
use Rattle.refinement.proofs.Good.{Good}
use Rattle.refinement.proofs.Grounds.{state_passes}
use Rattle.refinement.proofs.Steps.{first_zero, passed}
use Rattle.refinement.proofs.SearchFound.{search_found}

-- ---- the numbers

-- the search's own grounds: another S, then its window
abbrev pub window_ground : History → ℕ → ℕ → ℕ → ℤ → ℤ → ℕ
window_ground h k t1 t2 k1 k2 = Paper.ground 1 (not (eqb k h.log.slots)) (query_ground t1 t2 k1 k2)

-- ground 12 comes last
last_ground : (s a b c : Bool) (rest : ℕ)
    → Paper.ground 1 s (Paper.ground 4 a (Paper.ground 5 b (Paper.ground 6 c rest)))
    ≡ cond (eqb (Paper.ground 1 s (Paper.ground 4 a (Paper.ground 5 b (Paper.ground 6 c 0)))) 0) rest
    (Paper.ground 1 s (Paper.ground 4 a (Paper.ground 5 b (Paper.ground 6 c 0))))
last_ground true a b c rest = refl
last_ground false true b c rest = refl
last_ground false false true c rest = refl
last_ground false false false true rest = refl
last_ground false false false false rest = refl

module _ (h : History) (g : Good h) (k t1 t2 : ℕ) (k1 k2 : ℤ) where
  abbrev window : ℕ
  window = window_ground h k t1 t2 k1 k2

  pub ground_is : search_ground (image h) k t1 t2 k1 k2 ≡ window_ground h k t1 t2 k1 k2
  unfolding search_ground
  ground_is = state_passes h g k (query_ground t1 t2 k1 k2)

  -- no ground of its own holds
  pub record Passes : Type 0 where
    pub same : k ≡ h.log.slots
    pub low : load_ok k1 ≡ true
    pub high : load_ok k2 ≡ true

  pub window_passes : window_ground h k t1 t2 k1 k2 ≡ 0 → Passes
  unfolding query_ground
  window_passes e =
      let a = first_zero 0 (not (eqb k h.log.slots)) _ e in
      let b = first_zero 3 (not (time_ok t1 && time_ok t2)) _ a.1 in
      let c = first_zero 4 (not (load_ok k1 && load_ok k2)) _ b.1 in
      let ok = and_parts (load_ok k1) (load_ok k2) (passed _ c.0) in
      record { same = eqb-true k h.log.slots (passed _ a.0); low = ok.0; high = ok.1 }

  -- what is found then
  pub found_if : window_ground h k t1 t2 k1 k2 ≡ 0
      → found_rows (image h).nand (image h).nor (image h).state.page (log_of (image h).state k) (liveness_of (image h)) (query_of t1 t2 k1 k2)
      ≡ some (map row_of (found h.log t1 t2 k1 k2))
  found_if e = let p = window_passes e in rw p.same (search_found h g t1 t2 k1 k2 p.low p.high)

  module _ (area : List ℕ) where
    abbrev rows : List (List ℕ)
    rows = map row_of (found h.log t1 t2 k1 k2)

    abbrev number : ℕ
    number = Paper.number_of h.log (Paper.search k t1 t2 k1 k2 (length area / 32))

    -- the reply of that number
    abbrev reply_of : ℕ → Reply
    reply_of n = record {
      number = n;
      count = cond (eqb n 0) (length (found h.log t1 t2 k1 k2)) 0;
      area = cond (eqb n 0) (splice area 0 (row_bytes rows)) area;
    }

    abbrev is_full : Bool
    is_full = ltb (length area / 32) (length (found h.log t1 t2 k1 k2))

    number_is : number ≡ cond (eqb window 0) (Paper.ground 12 is_full 0) window
    unfolding Paper.number_of query_ground
    number_is =
        last_ground (not (eqb k h.log.slots)) (not (time_ok t1 && time_ok t2)) (not (load_ok k1 && load_ok k2))
        (ltb t2 t1 || lt_z k2 k1)
        (Paper.ground 12 is_full 0)

    answer_is : (pages : Pages) → searched (search_answer area pages (some rows)) ≡ reply_of (Paper.ground 12 is_full 0)
    unfolding search_answer
    answer_is pages = rw (length-map (found h.log t1 t2 k1 k2) row_of) (go is_full)
      where
        go : (t : Bool) → searched (cond t (refused_answer 12 area)
            (record { number = 0; count = length (found h.log t1 t2 k1 k2); pages = pages; area = splice area 0 (row_bytes rows) }))
            ≡ reply_of (Paper.ground 12 t 0)
        go true = refl
        go false = refl

    pub search_step : searched (search_outcome (image h) k t1 t2 k1 k2 area) ≡ record {
      number = Paper.number_of h.log (Paper.search k t1 t2 k1 k2 (length area / 32));
      count = cond (eqb (Paper.number_of h.log (Paper.search k t1 t2 k1 k2 (length area / 32))) 0)
          (length (found h.log t1 t2 k1 k2)) 0;
      area = cond (eqb (Paper.number_of h.log (Paper.search k t1 t2 k1 k2 (length area / 32))) 0)
          (splice area 0 (row_bytes (map row_of (found h.log t1 t2 k1 k2)))) area;
    }
    unfolding search_outcome
    search_step = rw ground_is (go (eqb window 0) refl ∙ ap reply_of (sym number_is))
      where
        pages : Pages
        pages = pages_read (image h).nand (log_of (image h).state k) (liveness_of (image h)) (query_of t1 t2 k1 k2)

        go : (t : Bool) → eqb window 0 ≡ t
            → searched (cond t (search_answer area pages
            (found_rows (image h).nand (image h).nor (image h).state.page (log_of (image h).state k) (liveness_of (image h)) (query_of t1 t2 k1 k2)))
            (refused_answer window area))
            ≡ reply_of (cond t (Paper.ground 12 is_full 0) window)
        go true e = rw (found_if (eqb-true window 0 e)) (answer_is pages)
        go false e = rw e
