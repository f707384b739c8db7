-- A tally's counts are 22 and have a bound, for any chips, any state and any arguments: where it is refused they are zeros, where it
-- is accepted they count the rows of a search, which are at most 320 for each slot and for the open segment. Assumes nothing.
use mathlib.Core.Path.{◌≡◌, refl, ap}
use mathlib.Core.Bool.{Bool, true, false, cond, not, ◌&&◌}
use mathlib.Core.Option.{Option, none, some}
use mathlib.Core.List.{List}
use Prim.Native.Nat.{ℕ, ◌≤◌}
use native.Mathlib.Omega.{arith}
use lib.Dec.{eqb}
use lib.IntN.{pos, negsuc}
use lib.ListN.{length, length-map}
use borrow.Author.Tests.{eqb-true, eqb-false, leb-true, not-false}
use Rattle.codec.proofs.Truth.{and_left, and_right}
use Rattle.lift.specs.Limits.{time_ok}
use Rattle.lift.specs.Record.{code_at}
use Rattle.plate.specs.Total.{total}
use Rattle.plate.specs.Plate.{no_counts, counts_of}
use Rattle.plate.proofs.Counts.{length_counts, total_none, counts_total}
use Rattle.found.specs.Found.{found_rows, most_found}
use Rattle.tally.specs.Answers.{TallyAnswer, tally_answer, row_codes}
use Rattle.found.proofs.Most.{found_most}
use Rattle.bounds.specs.Grounds.{nand_bad, nor_bad, query_ground}
use Rattle.bounds.proofs.Within as Within
use Rattle.store.specs.Bounds.{within_bounds}
use Rattle.store.specs.World.{World, liveness_of}
use Rattle.questions.specs.Queries.{log_of, query_of, search_ground, tally_outcome}
use Rattle.store.proofs.Rows.{row_none}
use Rattle.store.proofs.Grounds.{standing_in}
use Rattle.questions.proofs.Asked.{sound_in}

module _ (w : World) (slots t1 t2 : ℕ) where
  abbrev tally_ground : ℕ
  tally_ground = search_ground w slots t1 t2 (negsuc 49999) (pos 100000)

  abbrev rows_found : Option (List (List ℕ))
  rows_found =
      found_rows w.nand w.nor w.state.page (log_of w.state slots) (liveness_of w)
      (query_of t1 t2 (negsuc 49999) (pos 100000))

  -- a tally is refused, or counts rows that a search found
  tally_cases : (P : TallyAnswer → Type 0) → ((n : ℕ) → (n ≡ 0 → ⊥) → P (record { number = n; counts = no_counts }))
      → (tally_ground ≡ 0 → (rows : List (List ℕ)) → rows_found ≡ some rows
      → P (record { number = 0; counts = counts_of (row_codes rows) }))
      → P (tally_outcome w slots t1 t2)
  unfolding tally_outcome tally_answer
  tally_cases P refused accepted = go (eqb tally_ground 0) refl
    where
      answered : tally_ground ≡ 0 → (o : Option (List (List ℕ))) → rows_found ≡ o → P (tally_answer o)
      answered z none e = refused 10 (λ t. omega arith)
      answered z (some rows) e = accepted z rows e

      go : (t : Bool) → eqb tally_ground 0 ≡ t
          → P (cond t (tally_answer rows_found) (record { number = tally_ground; counts = no_counts }))
      go true e = answered (eqb-true tally_ground 0 e) rows_found refl
      go false e = refused tally_ground (eqb-false tally_ground 0 e)

  -- where none of grounds 1 to 4 holds
  record Fits : Type 0 where
    few : slots ≤ 4096
    first : t1 ≤ 999999999999999
    last : t2 ≤ 999999999999999

  fits : tally_ground ≡ 0 → Fits
  unfolding search_ground query_ground
  fits z =
      let query = query_ground t1 t2 (negsuc 49999) (pos 100000) in
      let bad = not (within_bounds w.form w.state w.live slots) in
      let r = row_none (nand_bad (length w.nand) slots) (nor_bad (length w.nor)) bad query z in
      let times = not-false (time_ok t1 && time_ok t2) (Within.ground_not 4 (not (time_ok t1 && time_ok t2)) _ (λ t. omega arith) r.1) in
      record {
        few = (standing_in w.form w.state w.live (length w.nand) (length w.nor) slots r.0).chips.most;
        first = leb-true t1 999999999999999 (and_left (time_ok t1) (time_ok t2) times);
        last = leb-true t2 999999999999999 (and_right (time_ok t1) (time_ok t2) times);
      }

  -- the lifts counted, as many as the rows
  counted_most : tally_ground ≡ 0 → (rows : List (List ℕ)) → rows_found ≡ some rows
      → total (counts_of (row_codes rows)) ≤ most_found slots
  unfolding search_ground
  counted_most z rows e =
      let sound = sound_in w.form w.state w.live w.nand w.nor slots (query_ground t1 t2 (negsuc 49999) (pos 100000)) z in
      omega (
        arith,
        counts_total (row_codes rows),
        length-map rows (λ r. code_at r 0),
        found_most w.nand w.nor w.state.page (log_of w.state slots) (liveness_of w)
            (query_of t1 t2 (negsuc 49999) (pos 100000)) sound rows e,
      )

  -- ---- what is known of every answer

  pub tally_most : total (tally_outcome w slots t1 t2).counts ≤ most_found slots
  tally_most = tally_cases (λ a. total a.counts ≤ most_found slots) (λ n h. omega (arith, total_none)) counted_most

  -- of 4,096 slots and the open segment
  pub tally_fits : total (tally_outcome w slots t1 t2).counts ≤ 1311040
  tally_fits =
      tally_cases (λ a. total a.counts ≤ 1311040) (λ n h. omega (arith, total_none))
      (λ z rows e. omega (arith, counted_most z rows e, (fits z).few))

  -- as the code has an answer
  pub counts_fit : {n : ℕ} {counts : List ℕ} → ◌≡◌ {A = TallyAnswer} (record { number = n; counts = counts }) (tally_outcome w slots t1 t2)
      → total counts ≤ 1311040
  counts_fit is = omega (arith, ap (λ (a : TallyAnswer). total a.counts) is, tally_fits)

  pub tally_length : length (tally_outcome w slots t1 t2).counts ≡ 22
  tally_length = tally_cases (λ a. length a.counts ≡ 22) (λ n h. refl) (λ z rows e. length_counts (row_codes rows))

  -- the times of an accepted tally are within their limits
  pub tally_window : (tally_outcome w slots t1 t2).number ≡ 0 → (t1 ≤ 999999999999999) × (t2 ≤ 999999999999999)
  tally_window =
      tally_cases (λ a. a.number ≡ 0 → (t1 ≤ 999999999999999) × (t2 ≤ 999999999999999)) (λ n h z. absurd (h z))
      (λ z rows e n. ((fits z).first, (fits z).last))
