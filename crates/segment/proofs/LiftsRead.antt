-- The lifts of a segment stand where they stood: the close moves the part-filled page from the buffer to its place
-- behind the full ones. Assumes nothing.
use mathlib.Core.Path.{◌≡◌, refl, sym, ap, ◌∙◌}
use mathlib.Core.Bool.{Bool, true, false, cond, not, ◌&&◌}
use mathlib.Core.List.{List}
use Prim.Native.Nat.{ℕ, ◌+◌, ◌-◌, ◌*◌, ◌/◌, ◌%◌, ◌≤◌, ◌<◌}
use native.Mathlib.Decide.{dec_lt, ℕ_discrete}
use native.Mathlib.Omega.{arith}
use lib.Dec.{eqb, ltb}
use lib.ListN.{length}
use borrow.Author.Tests.{lt-ltb, le-ltb, eq-eqb, ne_eqb}
use Rattle.codec.specs.Area.{part, splice}
use Rattle.codec.specs.Number.{le}
use Rattle.codec.proofs.Areas.{length_part, length_splice, part_before, part_inside, part_after, part_splice, agree_at_parts}
use Rattle.flash.specs.Chip.{page_start, page_of, pages_of}
use Rattle.lift.specs.Rows.{time_in, code_in, record_in}
use Rattle.header.specs.declared.Closing.{Closing}
use Rattle.segment.specs.Pages.{close_programmed}
use Rattle.segment.proofs.ClosedPages.{Shaped, length_closed, page_closed, page_other}
use Rattle.segment.proofs.Tests.{due_lifts}
use Rattle.segment.proofs.Turns.{image_lifts}
use Rattle.segment.proofs.ReadBack.{page_in_pages}

module _ (nor : List ℕ) (c : Closing) (shaped : Shaped nor c) (slots slot : ℕ) (there : slot < slots) (nand : List ℕ)
    (size : length nand ≡ slots * 16384) where
  -- the lift pages before and after
  abbrev before : List ℕ
  before = pages_of nand slot 0 20

  abbrev after : List ℕ
  after = pages_of (close_programmed nand nor slot c) slot 0 20

  length_before : length before ≡ 20 * 512
  length_before = length_part nand (page_start slot 0) 10240 (omega arith)

  length_after : length after ≡ 20 * 512
  length_after = length_part _ (page_start slot 0) 10240 (omega (arith, length_closed nor c shaped slots slot there nand size))

  page_after_lem : (i : ℕ) → i < 20
      → part after (i * 512) 512 ≡ cond (not (eqb (c.count % 16) 0) && eqb i (c.count / 16)) c.page (part before (i * 512) 512)
  page_after_lem i h =
      let z : 0 + i ≡ i = omega arith in
      let r = length_closed nor c shaped slots slot there nand size in
      page_in_pages (close_programmed nand nor slot c) slot 0 20 i (omega arith) (omega arith) h
      ∙ ap (λ (k : ℕ). page_of (close_programmed nand nor slot c) slot k) z
      ∙ page_closed nor c shaped slots slot there nand size i (omega arith)
      ∙ rw (← due_lifts c.count c.buckets i h, image_lifts nor c i h)
      (ap (cond (not (eqb (c.count % 16) 0) && eqb i (c.count / 16)) c.page)
      (ap (λ (k : ℕ). page_of nand slot k) (sym z) ∙ sym (page_in_pages nand slot 0 20 i (omega arith) (omega arith) h)))

  -- the lift pages of another slot
  pub lifts_other : (slot' : ℕ) → slot' < slots → (slot' ≡ slot → ⊥) → pages_of (close_programmed nand nor slot c) slot' 0 20 ≡ pages_of nand slot' 0 20
  lifts_other slot' h other =
      let r = length_closed nor c shaped slots slot there nand size in
      agree_at_parts _ _ 512 20 (omega arith) (length_part _ (page_start slot' 0) 10240 (omega arith)) (length_part nand (page_start slot' 0) 10240 (omega arith))
      (λ i l. page_in_pages (close_programmed nand nor slot c) slot' 0 20 i (omega arith) (omega arith) l
      ∙ page_other nor c shaped slots slot there nand size slot' (0 + i) h (omega arith) other
      ∙ sym (page_in_pages nand slot' 0 20 i (omega arith) (omega arith) l))

  -- no page is part-filled
  pub lifts_whole : c.count % 16 ≡ 0 → pages_of (close_programmed nand nor slot c) slot 0 20 ≡ pages_of nand slot 0 20
  lifts_whole e =
      agree_at_parts after before 512 20 (omega arith) length_after length_before
      (λ i h. page_after_lem i h ∙ rw (eq-eqb (c.count % 16) 0 e))

  -- one is
  pub lifts_closed : (c.count % 16 ≡ 0 → ⊥)
      → pages_of (close_programmed nand nor slot c) slot 0 20 ≡ splice (pages_of nand slot 0 20) (c.count / 16 * 512) c.page
  lifts_closed f =
      let l = length_before in
      let q : c.count / 16 * 512 + length c.page ≤ length before = omega (arith, shaped.most, shaped.page_size) in
      agree_at_parts after (splice before (c.count / 16 * 512) c.page) 512 20 (omega arith) length_after
      (length_splice before (c.count / 16 * 512) c.page q ∙ l)
      (λ i h. page_after_lem i h ∙ rw (ne_eqb (c.count % 16) 0 f) (go i h q l (ℕ_discrete i (c.count / 16))))
    where
      go : (i : ℕ) → i < 20 → c.count / 16 * 512 + length c.page ≤ length before → length before ≡ 20 * 512
          → Dec (i ≡ c.count / 16)
          → cond (eqb i (c.count / 16)) c.page (part before (i * 512) 512)
          ≡ part (splice before (c.count / 16 * 512) c.page) (i * 512) 512
      go i h q l (yes e) =
          rw (eq-eqb i (c.count / 16) e, e) (sym (part_splice before (c.count / 16 * 512) c.page q 512 shaped.page_size))
      go i h q l (no e) = rw (ne_eqb i (c.count / 16) e) (sym (side (dec_lt i (c.count / 16))))
        where
          side : Dec (i < c.count / 16) → part (splice before (c.count / 16 * 512) c.page) (i * 512) 512
              ≡ part before (i * 512) 512
          side (yes b) = part_before before (c.count / 16 * 512) c.page q (i * 512) 512 (omega arith)
          side (no b) =
              part_after before (c.count / 16 * 512) c.page q (i * 512) 512 (omega (arith, shaped.page_size)) (omega arith)

  -- the n bytes from a on of the record at place p
  pub lift_part : (p a n : ℕ) → p < c.count → a + n ≤ 32
      → part (pages_of (close_programmed nand nor slot c) slot 0 20) (p * 32 + a) n
      ≡ cond (ltb p (c.count / 16 * 16)) (part (pages_of nand slot 0 20) (p * 32 + a) n)
      (part c.page ((p - c.count / 16 * 16) * 32 + a) n)
  lift_part p a n h k = whole (ℕ_discrete (c.count % 16) 0)
    where
      whole : Dec (c.count % 16 ≡ 0)
          → part after (p * 32 + a) n
          ≡ cond (ltb p (c.count / 16 * 16)) (part before (p * 32 + a) n) (part c.page ((p - c.count / 16 * 16) * 32 + a) n)
      whole (yes e) = rw (lifts_whole e, lt-ltb p (c.count / 16 * 16) (omega arith))
      whole (no f) = rw (lifts_closed f) (there' (dec_lt p (c.count / 16 * 16)))
        where
          q : c.count / 16 * 512 + length c.page ≤ length before
          q = omega (arith, shaped.most, shaped.page_size, length_before)

          there' : Dec (p < c.count / 16 * 16)
              → part (splice before (c.count / 16 * 512) c.page) (p * 32 + a) n
              ≡ cond (ltb p (c.count / 16 * 16)) (part before (p * 32 + a) n)
              (part c.page ((p - c.count / 16 * 16) * 32 + a) n)
          there' (yes l) =
              rw (lt-ltb p (c.count / 16 * 16) l)
              (part_before before (c.count / 16 * 512) c.page q (p * 32 + a) n (omega arith))
          there' (no l) =
              let e : p * 32 + a ≡ c.count / 16 * 512 + ((p - c.count / 16 * 16) * 32 + a) = omega arith in
              rw (le-ltb p (c.count / 16 * 16) (omega arith))
              (ap (λ (i : ℕ). part (splice before (c.count / 16 * 512) c.page) i n) e
              ∙ part_inside before (c.count / 16 * 512) c.page q ((p - c.count / 16 * 16) * 32 + a) n
              (omega (arith, shaped.page_size)))

  -- a place of the closed segment is that of the open one
  module _ (p : ℕ) (h : p < c.count) where
    inside : ltb p 320 ≡ true
    inside = lt-ltb p 320 (omega (arith, shaped.most))

    at_start : (n : ℕ) → n ≤ 32
        → part after (p * 32) n ≡ cond (ltb p (c.count / 16 * 16)) (part before (p * 32) n)
        (part c.page ((p - c.count / 16 * 16) * 32) n)
    at_start n k =
        let x : p * 32 + 0 ≡ p * 32 = omega arith in
        let y : (p - c.count / 16 * 16) * 32 + 0 ≡ (p - c.count / 16 * 16) * 32 = omega arith in
        rw (x, y) at (lift_part p 0 n h (omega arith))

    by_place : (b : Bool) (x y : List ℕ) → le (cond b x y) ≡ cond b (le x) (le y)
    by_place true x y = refl
    by_place false x y = refl

    pub time_closed : time_in after after 320 p ≡ time_in before c.page (c.count / 16 * 16) p
    unfolding time_in
    time_closed = rw inside (ap le (at_start 8 (omega arith)) ∙ by_place (ltb p (c.count / 16 * 16)) _ _)

    pub code_closed : code_in after after 320 p ≡ code_in before c.page (c.count / 16 * 16) p
    unfolding code_in
    code_closed = rw inside (ap le (lift_part p 8 4 h (omega arith)) ∙ by_place (ltb p (c.count / 16 * 16)) _ _)

    pub record_closed : record_in after after 320 p ≡ record_in before c.page (c.count / 16 * 16) p
    unfolding record_in
    record_closed = rw inside (at_start 32 (omega arith))
