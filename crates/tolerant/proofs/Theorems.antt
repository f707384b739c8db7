-- What a tolerant search gives (document 02, W-209), for any chips, any state and any arguments: the possible list is that of one plain search
-- over the widened ends, the certain one is part of it, and with d = 0 both are the plain search. Assumes nothing.
use mathlib.Core.Path.{◌≡◌, refl, sym, ap, ap₂, ◌∙◌}
use mathlib.Core.Bool.{Bool, true, false, cond, not, ◌&&◌, ◌||◌}
use mathlib.Core.Option.{Option, none, some}
use mathlib.Core.List.{List, [], ◌∷◌}
use Prim.Native.Nat.{ℕ}
use native.Mathlib.Omega.{arith}
use lib.Dec.{eqb, ltb}
use lib.IntN.{ℤ}
use lib.ListN.{length}
use lib.Signed.{le_z}
use borrow.Author.Tests.{eqb-true, eqb-false}
use Rattle.codec.specs.Area.{splice}
use Rattle.codec.proofs.Lists.{AllOf}
use Rattle.codec.proofs.Truth.{or_parts}
use Rattle.lift.specs.Limits.{load_ok, stored, load_of}
use Rattle.lift.specs.Record.{code_at}
use Rattle.lift.specs.Rows.{whole_rows}
use Rattle.lift.proofs.Codes.{within_limits, load_le}
use Rattle.bounds.specs.Grounds.{nand_bad, nor_bad, query_ground}
use Rattle.tree.specs.Search.{within}
use Rattle.found.specs.declared.Pages.{Pages}
use Rattle.found.specs.Found.{found_rows}
use Rattle.found.specs.Pages.{pages_read}
use Rattle.found.proofs.InRange.{InRange, found_in_range}
use Rattle.search.specs.Answers.{SearchAnswer, row_bytes, refused_answer, search_answer}
use Rattle.store.specs.World.{World, liveness_of}
use Rattle.store.specs.Bounds.{within_bounds}
use Rattle.store.specs.Calls.{state_ground}
use Rattle.store.proofs.Rows.{row_later, row_none}
use Rattle.questions.specs.Queries.{log_of, query_of, search_ground, search_outcome}
use Rattle.questions.proofs.Asked.{sound_in}
use Rattle.tolerance.specs.Tolerance.{is_between, low_end, high_end, certain_rows}
use Rattle.tolerance.specs.Grounds.{tolerance_ground}
use Rattle.tolerance.proofs.Grounds.{ground_window}
use Rattle.tolerance.proofs.ByEnds.{widened_window}
use Rattle.tolerance.proofs.Theorems.{certain_part, zero_low_end, zero_high_end, zero_rows}
use Rattle.tolerant.specs.Answers.{TolerantAnswer, refused_both, listed_both, tolerant_answer}
use Rattle.tolerant.specs.Call.{tolerant_ground, widened_rows, tolerant_outcome}
use Rattle.tolerant.specs.Words.{TwoLists, FromSearch, searched_twice}
use Rattle.tolerant.proofs.Asked.{Window, window_ok}

-- where no ground of a state and what comes after holds, another that comes after decides alone
later_alone : (w : World) (slots later other : ℕ) → state_ground w slots later ≡ 0 → state_ground w slots other ≡ other
later_alone w slots later other e =
    sym (row_later (nand_bad (length w.nand) slots) (nor_bad (length w.nor)) (not (within_bounds w.form w.state w.live slots))
    (state_ground w slots later) later other refl e other refl)

module _ (w : World) (slots t1 t2 : ℕ) (k1 k2 : ℤ) (d : ℕ) (certain_area possible_area : List ℕ) where
  abbrev outcome : TolerantAnswer
  outcome = tolerant_outcome w slots t1 t2 k1 k2 d certain_area possible_area

  abbrev is_small : List (List ℕ) → Bool
  is_small rows = ltb (whole_rows certain_area) (length (certain_rows k1 k2 d rows)) || ltb (whole_rows possible_area) (length rows)

  abbrev both : List (List ℕ) → TolerantAnswer
  both rows = record {
    number = 0;
    certain = length (certain_rows k1 k2 d rows);
    possible = length rows;
    certain_area = splice certain_area 0 (row_bytes (certain_rows k1 k2 d rows));
    possible_area = splice possible_area 0 (row_bytes rows);
  }

  -- it is refused, or has both lists
  outcome_cases : (P : TolerantAnswer → Type 0) → ((n : ℕ) → (n ≡ 0 → ⊥) → P (refused_both n certain_area possible_area))
      → (tolerant_ground w slots t1 t2 k1 k2 d ≡ 0 → (rows : List (List ℕ)) → widened_rows w slots t1 t2 k1 k2 d ≡ some rows
      → is_small rows ≡ false → P (both rows))
      → P (tolerant_outcome w slots t1 t2 k1 k2 d certain_area possible_area)
  unfolding tolerant_outcome tolerant_answer
  outcome_cases P refused accepted = go (eqb ground 0) refl
    where
      ground : ℕ
      ground = tolerant_ground w slots t1 t2 k1 k2 d

      fitting : ground ≡ 0 → (rows : List (List ℕ)) → widened_rows w slots t1 t2 k1 k2 d ≡ some rows → (b : Bool) → is_small rows ≡ b
          → P (cond b (refused_both 12 certain_area possible_area) (both rows))
      fitting z rows is true e = refused 12 (λ t. omega arith)
      fitting z rows is false e = accepted z rows is e

      answered : ground ≡ 0 → (o : Option (List (List ℕ))) → widened_rows w slots t1 t2 k1 k2 d ≡ o
          → P (tolerant_answer (certain_rows k1 k2 d) certain_area possible_area o)
      answered z none is = refused 10 (λ t. omega arith)
      answered z (some rows) is = fitting z rows is (is_small rows) refl

      go : (t : Bool) → eqb ground 0 ≡ t
          → P (cond t (tolerant_answer (certain_rows k1 k2 d) certain_area possible_area (widened_rows w slots t1 t2 k1 k2 d))
          (refused_both ground certain_area possible_area))
      go true e = answered (eqb-true ground 0 e) (widened_rows w slots t1 t2 k1 k2 d) refl
      go false e = refused ground (eqb-false ground 0 e)

  -- "The certain list is part of the possible one", in order
  pub two_lists : outcome.number ≡ 0 → TwoLists k1 k2 d (widened_rows w slots t1 t2 k1 k2 d) certain_area possible_area outcome
  two_lists =
      outcome_cases (λ a. a.number ≡ 0 → TwoLists k1 k2 d (widened_rows w slots t1 t2 k1 k2 d) certain_area possible_area a)
      (λ n h z. absurd (h z)) (λ g rows is fits z.
      record {
        possible = rows;
        found = is;
        part = certain_part k1 k2 d rows;
        certain_in = record { many = refl; written = refl };
        possible_in = record { many = refl; written = refl };
      })

  -- the plain search over the widened ends
  widened_ground : tolerant_ground w slots t1 t2 k1 k2 d ≡ 0 → search_ground w slots t1 t2 (low_end k1 d) (high_end k2 d) ≡ 0
  unfolding tolerant_ground search_ground
  widened_ground e =
      let later = (row_none (nand_bad (length w.nand) slots) (nor_bad (length w.nor))
      (not (within_bounds w.form w.state w.live slots)) (tolerance_ground t1 t2 k1 k2 d) e).1 in
      later_alone w slots (tolerance_ground t1 t2 k1 k2 d) (query_ground t1 t2 (low_end k1 d) (high_end k2 d)) e
      ∙ widened_window t1 t2 k1 k2 d (ground_window t1 t2 k1 k2 d later).0

  -- "Both come from one plain search over the widened ends": the possible list is all that it finds
  pub from_one_search : outcome.number ≡ 0 → FromSearch (search_outcome w slots t1 t2 (low_end k1 d) (high_end k2 d) possible_area) outcome
  unfolding search_outcome search_answer widened_rows
  from_one_search =
      outcome_cases (λ a. a.number ≡ 0 → FromSearch (search_outcome w slots t1 t2 (low_end k1 d) (high_end k2 d) possible_area) a)
      (λ n h z. absurd (h z)) (λ g rows is fits z.
      let small = (or_parts (ltb (whole_rows certain_area) (length (certain_rows k1 k2 d rows))) (ltb (whole_rows possible_area) (length rows)) fits).1 in
      rw (widened_ground g, is, small) (record { accepted = refl; possible = refl; possible_area = refl }))

-- ---- no tolerance

-- a row that the plain search finds lies between k1 and k2
between_code : (k1 k2 : ℤ) → load_ok k1 ≡ true → load_ok k2 ≡ true → (code : ℕ) → is_between k1 k2 (load_of code) ≡ within (stored k1) (stored k2) code
between_code k1 k2 ok1 ok2 code =
    ap₂ ◌&&◌ (ap (λ z. le_z z (load_of code)) (sym (within_limits k1 ok1).load) ∙ load_le (stored k1) code)
    (ap (le_z (load_of code)) (sym (within_limits k2 ok2).load) ∙ load_le code (stored k2))

all_between : (t1 t2 : ℕ) (k1 k2 : ℤ) → load_ok k1 ≡ true → load_ok k2 ≡ true → (rows : List (List ℕ)) → AllOf (InRange (query_of t1 t2 k1 k2)) rows
    → AllOf (λ r. is_between k1 k2 (load_of (code_at r 0)) ≡ true) rows
all_between t1 t2 k1 k2 ok1 ok2 [] all = tt
all_between t1 t2 k1 k2 ok1 ok2 (r ∷ rows) all =
    (between_code k1 k2 ok1 ok2 (code_at r 0) ∙ all.0, all_between t1 t2 k1 k2 ok1 ok2 rows all.1)

module _ (w : World) (slots t1 t2 : ℕ) (k1 k2 : ℤ) (certain_area possible_area : List ℕ) (page_size : length w.state.page ≡ 512) where
  abbrev twice : TolerantAnswer
  twice =
      searched_twice certain_area possible_area (search_outcome w slots t1 t2 k1 k2 certain_area) (search_outcome w slots t1 t2 k1 k2 possible_area)

  abbrev rows_found : Option (List (List ℕ))
  rows_found = found_rows w.nand w.nor w.state.page (log_of w.state slots) (liveness_of w) (query_of t1 t2 k1 k2)

  abbrev pages : Pages
  pages = pages_read w.nand (log_of w.state slots) (liveness_of w) (query_of t1 t2 k1 k2)

  same_ground : tolerant_ground w slots t1 t2 k1 k2 0 ≡ search_ground w slots t1 t2 k1 k2
  unfolding tolerant_ground search_ground tolerance_ground query_ground
  same_ground = refl

  -- where no ground holds, the rows are those of the plain search, and all of them are certain
  module _ (g : search_ground w slots t1 t2 k1 k2 ≡ 0) where
    window : Window k1 k2 0
    unfolding tolerant_ground
    window =
        window_ok t1 t2 k1 k2 0
        (row_none (nand_bad (length w.nand) slots) (nor_bad (length w.nor)) (not (within_bounds w.form w.state w.live slots))
        (tolerance_ground t1 t2 k1 k2 0) (same_ground ∙ g)).1

    same_rows : widened_rows w slots t1 t2 k1 k2 0 ≡ rows_found
    unfolding widened_rows
    same_rows = rw (zero_low_end k1 window.low, zero_high_end k2 window.high)

    all_certain : (rows : List (List ℕ)) → rows_found ≡ some rows → certain_rows k1 k2 0 rows ≡ rows
    unfolding search_ground
    all_certain rows is =
        let sound = sound_in w.form w.state w.live w.nand w.nor slots (query_ground t1 t2 k1 k2) g in
        zero_rows k1 k2 rows (all_between t1 t2 k1 k2 window.low window.high rows
        (rw is at (found_in_range w.nand w.nor w.state.page (log_of w.state slots) (liveness_of w) (query_of t1 t2 k1 k2) sound page_size)))

  -- both lists from the rows of one search, and from two
  abbrev searched_of : Option (List (List ℕ)) → TolerantAnswer
  searched_of o = searched_twice certain_area possible_area (search_answer certain_area pages o) (search_answer possible_area pages o)

  twice_listed : (rows : List (List ℕ)) → listed_both certain_area possible_area rows rows ≡ searched_of (some rows)
  unfolding searched_twice search_answer
  twice_listed rows = go (ltb (whole_rows certain_area) (length rows)) (ltb (whole_rows possible_area) (length rows))
    where
      listed : List ℕ → Bool → SearchAnswer
      listed area t =
          cond t (refused_answer 12 area) (record { number = 0; count = length rows; pages = pages; area = splice area 0 (row_bytes rows) })

      go : (a b : Bool)
          → cond (a || b) (refused_both 12 certain_area possible_area)
          (record {
            number = 0;
            certain = length rows;
            possible = length rows;
            certain_area = splice certain_area 0 (row_bytes rows);
            possible_area = splice possible_area 0 (row_bytes rows);
          })
          ≡ searched_twice certain_area possible_area (listed certain_area a) (listed possible_area b)
      go true b = refl
      go false true = refl
      go false false = refl

  twice_answered : (o : Option (List (List ℕ))) → ((rows : List (List ℕ)) → o ≡ some rows → certain_rows k1 k2 0 rows ≡ rows)
      → tolerant_answer (certain_rows k1 k2 0) certain_area possible_area o ≡ searched_of o
  unfolding tolerant_answer searched_twice search_answer
  twice_answered none all = refl
  twice_answered (some rows) all = ap (λ (x : List (List ℕ)). listed_both certain_area possible_area x rows) (all rows refl) ∙ twice_listed rows

  twice_refused : (n : ℕ) → eqb n 0 ≡ false → refused_both n certain_area possible_area
      ≡ searched_twice certain_area possible_area (refused_answer n certain_area) (refused_answer n possible_area)
  unfolding searched_twice
  twice_refused n e = rw (e, e)

  -- "with d = 0 both equal the plain search"
  pub zero_tolerance : tolerant_outcome w slots t1 t2 k1 k2 0 certain_area possible_area
      ≡ searched_twice certain_area possible_area (search_outcome w slots t1 t2 k1 k2 certain_area) (search_outcome w slots t1 t2 k1 k2 possible_area)
  unfolding tolerant_outcome search_outcome
  zero_tolerance = rw same_ground (go (eqb (search_ground w slots t1 t2 k1 k2) 0) refl)
    where
      n : ℕ
      n = search_ground w slots t1 t2 k1 k2

      go : (t : Bool) → eqb n 0 ≡ t
          → cond t (tolerant_answer (certain_rows k1 k2 0) certain_area possible_area (widened_rows w slots t1 t2 k1 k2 0))
          (refused_both n certain_area possible_area)
          ≡ searched_twice certain_area possible_area
          (cond t (search_answer certain_area pages rows_found) (refused_answer n certain_area))
          (cond t (search_answer possible_area pages rows_found) (refused_answer n possible_area))
      go true e = let g = eqb-true n 0 e in rw (same_rows g) (twice_answered rows_found (all_certain g))
      go false e = twice_refused n e
