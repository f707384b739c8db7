-- Demand 2: a retained closed segment reads back as the lifts that went in, in order. Assumes nothing.
use mathlib.Core.Path.{◌≡◌, refl, sym, ap, ap₂, ◌∙◌}
use mathlib.Core.List.{List, [], ◌∷◌, ◌++◌, append_assoc}
use Prim.Native.Nat.{ℕ, suc, ◌+◌, ◌-◌, ◌*◌, ◌≤◌, ◌<◌}
use native.Mathlib.Omega.{arith}
use lib.IntN.{ℤ}
use lib.ListN.{length, get_or, length-append}
use borrow.Author.Tests.{lt-ltb}
use Rattle.codec.specs.Number.{number_at}
use Rattle.flash.specs.Chip.{slot_of, page_of, pages_of}
use Rattle.lift.specs.Limits.{load_of}
use Rattle.lift.proofs.Codes.{within_limits}
use Rattle.bloom.specs.Pages.{each}
use Rattle.header.specs.declared.Header.{Header}
use Rattle.header.specs.Header.{header_in}
use Rattle.paper_log.specs.Log.{Lift, open_serial}
use Rattle.refinement.specs.Inner.Segments as S
use Rattle.refinement.specs.Inner.Image.{History, nand_image, state_image, image}
use Rattle.refinement.specs.ReadBack.{lift_in, segment_in, segments_in}
use Rattle.refinement.proofs.Good.{GoodLifts, Good}
use Rattle.refinement.proofs.Lengths.{length_lift_area}
use Rattle.refinement.proofs.PageLengths.{length_nand}
use Rattle.flash.proofs.Slots.{slot_below}
use Rattle.refinement.proofs.Wanted.{no_lift}
use Rattle.refinement.proofs.Records.{pages_are, good_at, held, row_in_area}
use Rattle.refinement.proofs.Retained.{built, retained_page, retained_header}

-- an area's records are a list's members, one after the other
pub each_is : {A : Type 0} (f : ℕ → A) (d : A) (xs : List A) (from : ℕ) → ((i : ℕ) → i < length xs → f (from + i) ≡ get_or xs i d) → each f from (length xs) ≡ xs
unfolding each
each_is f d [] from g = refl
each_is {A} f d (x ∷ xs) from g =
    let z : from + 0 ≡ from = omega arith in
    ap₂ {C = List A} (λ a b. a ∷ b) (ap f (sym z) ∙ g 0 (omega arith))
    (each_is f d xs (suc from) (λ i h. let e : suc from + i ≡ from + suc i = omega arith in ap f e ∙ g (suc i) (omega arith)))

same : {t t' : ℕ} {l l' : ℤ} {n n' : List ℕ} → t ≡ t' → l ≡ l' → n ≡ n'
    → ◌≡◌ {A = Lift} (record { time = t; load = l; note = n }) (record { time = t'; load = l'; note = n' })
same a b c = cc (a, b, c)

-- the lifts of a segment's lift area are its lifts
lifts_read : (ls : List Lift) → GoodLifts ls → length ls ≤ 320 → each (lift_in (S.lift_area ls)) 0 (length ls) ≡ ls
lifts_read ls g few = each_is (lift_in (S.lift_area ls)) no_lift ls 0 one
  where
    one : (i : ℕ) → i < length ls → lift_in (S.lift_area ls) (0 + i) ≡ get_or ls i no_lift
    one i h =
        let w = held ls g (S.lift_area ls) (i * 32) i h (omega (arith, length_lift_area ls g few), row_in_area ls g i h) in
        let k = within_limits (get_or ls i no_lift).load (good_at ls i g h).load in
        let z : 0 + i ≡ i = omega arith in
        ap (lift_in (S.lift_area ls)) z ∙ same w.time_is (ap load_of w.code_is ∙ k.load) w.note_is

module _ (h : History) (g : Good h) where
  -- one segment
  pub segment_read : (before : List (List Lift)) (ls : List Lift) (after : List (List Lift)) → h.log.closed ≡ before ++ (ls ∷ after)
      → segment_in (nand_image h) (slot_of (h.log.oldest + length before) h.log.slots) ≡ ls
  unfolding segment_in S.closed_page header_in S.closing_of
  segment_read before ls after is =
      let slot : ℕ = slot_of (h.log.oldest + length before) h.log.slots in
      let b = built h g before ls after is in
      let there = slot_below h.log.slots (h.log.oldest + length before) (omega (arith, g.least)) in
      let area : pages_of (nand_image h) slot 0 20 ≡ S.lift_area ls =
      pages_are (nand_image h) (S.lift_area ls) slot 0 20 (omega (arith, length_nand h g, there)) (omega arith) (length_lift_area ls b.lifts b.few)
      (λ i q. let z : 0 + i ≡ i = omega arith in
      ap (page_of (nand_image h) slot) z ∙ retained_page h g before ls after is i (omega arith) ∙ rw (lt-ltb i 20 q)) in
      let count : number_at (page_of (nand_image h) slot 31) 4 2 ≡ length ls =
      ap (λ (e : Header). e.count) (retained_header h g before ls after is (suc (h.log.oldest + length before)) (omega arith)) in
      ap₂ {C = List Lift} (λ a n. each (lift_in a) 0 n) area count ∙ lifts_read ls b.lifts b.few

  -- all of them, from the oldest serial on
  rest_read : (before rest : List (List Lift)) → h.log.closed ≡ before ++ rest
      → each (λ n. segment_in (nand_image h) (slot_of n h.log.slots)) (h.log.oldest + length before) (length rest) ≡ rest
  unfolding each
  rest_read before [] is = refl
  rest_read before (ls ∷ rest) is =
      let e : suc (h.log.oldest + length before) ≡ h.log.oldest + length (before ++ (ls ∷ [])) = omega (arith, length-append before (ls ∷ [])) in
      ap₂ {C = List (List Lift)} (λ a b. a ∷ b) (segment_read before ls rest is)
      (ap (λ (n : ℕ). each (λ m. segment_in (nand_image h) (slot_of m h.log.slots)) n (length rest)) e
      ∙ rest_read (before ++ (ls ∷ [])) rest (is ∙ sym (append_assoc before (ls ∷ []) rest)))

  pub segments_read_lem : segments_in (image h) h.log.slots ≡ h.log.closed
  unfolding segments_in image state_image
  segments_read_lem =
      let z : h.log.oldest ≡ h.log.oldest + 0 = omega arith in
      let n : open_serial h.log - h.log.oldest ≡ length h.log.closed = omega arith in
      ap₂ {C = List (List Lift)} (λ a b. each (λ m. segment_in (nand_image h) (slot_of m h.log.slots)) a b) z n ∙ rest_read [] h.log.closed refl
