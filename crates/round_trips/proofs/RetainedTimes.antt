-- The lift times that going back reads are the times of the paper log's retained lifts, in order. Assumes nothing.
use mathlib.Core.Path.{◌≡◌, refl, sym, ap, ap₂, subst, ◌∙◌}
use mathlib.Core.List.{List, ◌++◌}
use Prim.Native.Nat.{ℕ, zero, suc, ◌+◌, ◌-◌, ◌*◌, ◌/◌, ◌≤◌, ◌<◌}
use native.Mathlib.Omega.{arith}
use lib.ListN.{length, length-map, get_or-map}
use borrow.Author.Tests.{lt-ltb}
use Rattle.codec.specs.Number.{number_at}
use Rattle.flash.specs.Chip.{slot_of, pages_of}
use Rattle.lift.specs.Rows.{time_in}
use Rattle.bloom.specs.Pages.{each}
use Rattle.paper_log.specs.Log.{Lift, open_serial, joined, retained}
use Rattle.refinement.specs.Inner.Segments as S
use Rattle.refinement.specs.Inner.Image.{History, nand_image, state_image, image}
use Rattle.refinement.specs.ReadBack.{lift_in, segment_in, segments_in}
use Rattle.refinement.proofs.Good.{Good}
use Rattle.refinement.proofs.Wanted.{no_lift, map_append}
use Rattle.refinement.proofs.Records.{current_reads}
use Rattle.refinement.proofs.ReadBack.{each_is, segments_read_lem}
use Rattle.carry.specs.Carried.{header_of}
use Rattle.retained.specs.Retained.{closed_times, times_from, open_times, retained_times}
use Rattle.round_trips.specs.GoingBack.{times_of}
use Rattle.round_trips.proofs.Closed.{header_at}

-- ---- closed segments, as they read back

lifts_times : (area : List ℕ) (from n : ℕ) → from + n ≤ 320 → each (time_in area area 320) from n ≡ times_of (each (lift_in area) from n)
unfolding each time_in
lifts_times area from zero l = refl
lifts_times area from (suc n) l = rw (lt-ltb from 320 (omega arith), lifts_times area (suc from) n (omega arith))

closed_times_lem : (nand : List ℕ) (slots n : ℕ) → number_at (header_of nand slots n) 4 2 ≤ 320
    → closed_times nand slots n ≡ times_of (segment_in nand (slot_of n slots))
unfolding segment_in
closed_times_lem nand slots n few = lifts_times (pages_of nand (slot_of n slots) 0 20) 0 (number_at (header_of nand slots n) 4 2) (omega arith)

times_from_lem : (nand : List ℕ) (slots m n : ℕ) → ((i : ℕ) → i < m → number_at (header_of nand slots (n + i)) 4 2 ≤ 320)
    → times_from nand slots m n ≡ times_of (joined (each (λ k. segment_in nand (slot_of k slots)) n m))
unfolding times_from each joined
times_from_lem nand slots zero n few = refl
times_from_lem nand slots (suc m) n few =
    let z : n + 0 ≡ n = omega arith in
    let own = closed_times_lem nand slots n (rw z at (few 0 (omega arith))) in
    let rest = times_from_lem nand slots m (suc n) (λ i l.
    let e : n + suc i ≡ suc n + i = omega arith in
    subst (λ (k : ℕ). number_at (header_of nand slots k) 4 2 ≤ 320) e (few (suc i) (omega arith))) in
    ap₂ {C = List ℕ} (λ a b. a ++ b) own rest
    ∙ sym (map_append (λ l. l.time) (segment_in nand (slot_of n slots)) (joined (each (λ k. segment_in nand (slot_of k slots)) (suc n) m)))

module _ (h : History) (g : Good h) where
  abbrev slots : ℕ
  slots = h.log.slots

  few_at : (i : ℕ) → i < length h.log.closed → number_at (header_of (nand_image h) slots (h.log.oldest + i)) 4 2 ≤ 320
  few_at i l = let r = header_at h g i l in omega (arith, r.count, r.few)

  closed_are : times_from (nand_image h) slots (open_serial h.log - h.log.oldest) h.log.oldest ≡ times_of (joined h.log.closed)
  unfolding segments_in image state_image
  closed_are =
      times_from_lem (nand_image h) slots (open_serial h.log - h.log.oldest) h.log.oldest (λ i l. few_at i (omega arith))
      ∙ ap (λ (c : List (List Lift)). times_of (joined c)) (segments_read_lem h g)

  -- ---- the open segment

  open_are : open_times (image h) slots ≡ times_of h.log.current
  unfolding image state_image
  open_are =
      let ls : List Lift = h.log.current in
      let times : List ℕ = times_of ls in
      let n : length times ≡ length ls = length-map ls (λ l. l.time) in
      let reads = current_reads h g in
      let area : List ℕ = pages_of (nand_image h) (slot_of (open_serial h.log) slots) 0 20 in
      ap (each (time_in area (S.page_buffer ls) (length ls / 16 * 16)) 0) (sym n)
      ∙ each_is (time_in area (S.page_buffer ls) (length ls / 16 * 16)) 0 times 0 (λ i l.
      let z : 0 + i ≡ i = omega arith in
      ap (time_in area (S.page_buffer ls) (length ls / 16 * 16)) z ∙ reads.times i (omega arith)
      ∙ sym (get_or-map (λ l. l.time) ls i no_lift))

  pub times_are : retained_times (image h) h.log.slots ≡ times_of (retained h.log)
  unfolding image state_image
  times_are =
      ap₂ {C = List ℕ} (λ a b. a ++ b) closed_are open_are ∙ sym (map_append (λ l. l.time) (joined h.log.closed) h.log.current)
