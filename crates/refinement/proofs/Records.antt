-- The records of a segment stand where a search reads them: in the lift pages of a closed one, in the full pages and the page
-- buffer of the open one. Each place is a part of the segment's lift area. Assumes nothing.
use mathlib.Core.Path.{◌≡◌, refl, sym, ap, ◌∙◌}
use mathlib.Core.Bool.{Bool, true, false, cond}
use mathlib.Core.List.{List, [], ◌∷◌, map}
use Prim.Native.Nat.{ℕ, zero, suc, ◌+◌, ◌-◌, ◌*◌, ◌/◌, ◌%◌, ◌≤◌, ◌<◌}
use native.Mathlib.Omega.{arith}
use lib.Dec.{ltb}
use lib.ListN.{length, get_or, length-map, get_or-map}
use borrow.Author.Tests.{ltb-true, ltb-false, lt-ltb}
use Rattle.codec.specs.Area.{part}
use Rattle.codec.proofs.Areas.{length_part, part_part, part_append_left, agree_at_parts}
use Rattle.flash.specs.Chip.{slot_of, page_start, page_of, pages_of}
use Rattle.lift.specs.Limits.{stored}
use Rattle.lift.specs.Rows.{time_in, code_in, record_in}
use Rattle.lift.proofs.Codes.{within_limits}
use Rattle.lift.proofs.Records.{Holds, record_read}
use Rattle.segment.proofs.ReadBack.{part_in_page, page_in_pages}
use Rattle.search.proofs.Rows.{row_at}
use Rattle.paper_log.specs.Log.{Lift, open_serial, row_of}
use Rattle.refinement.specs.Inner.Segments.{records_of, lift_area, lift_page, page_buffer, open_page}
use Rattle.refinement.specs.Inner.Image.{History, oldest_heads, nand_image}
use Rattle.refinement.proofs.Good.{GoodLift, GoodLifts, Good}
use Rattle.refinement.proofs.Lengths.{wide_records, length_records, length_lift_area, length_page_buffer}
use Rattle.refinement.proofs.PageLengths.{length_nand, page_of_nand}
use Rattle.flash.proofs.Slots.{slot_below}
use Rattle.refinement.proofs.ClosePage.{buffer_page}
use Rattle.refinement.proofs.PageFrom.{page_open}
use Rattle.refinement.proofs.Wanted.{no_lift}

-- pages of a slot that are an area page by page
pub pages_are : (nand area : List ℕ) (slot p n : ℕ) → slot * 16384 + 16384 ≤ length nand → p + n ≤ 32 → length area ≡ n * 512
    → ((i : ℕ) → i < n → page_of nand slot (p + i) ≡ part area (i * 512) 512) → pages_of nand slot p n ≡ area
pages_are nand area slot p n room q e f =
    agree_at_parts (pages_of nand slot p n) area 512 n (omega arith)
    (length_part nand (page_start slot p) (n * 512) (omega arith)) e
    (λ i h. page_in_pages nand slot p n i room q h ∙ f i h)

pub good_at : (ls : List Lift) (p : ℕ) → GoodLifts ls → p < length ls → GoodLift (get_or ls p no_lift)
good_at [] p g h = absurd (omega arith)
good_at (l ∷ ls) zero g h = g.0
good_at (l ∷ ls) (suc p) g h = good_at ls p g.1 (omega arith)

-- what a search reads at the places of a segment's lifts
pub record Reads (lifts tail : List ℕ) (first : ℕ) (ls : List Lift) : Type 0 where
  pub rows : (p : ℕ) → p < length ls → record_in lifts tail first p ≡ row_of (get_or ls p no_lift)
  pub loads : (p : ℕ) → p < length ls → code_in lifts tail first p ≡ stored (get_or ls p no_lift).load
  pub times : (p : ℕ) → p < length ls → time_in lifts tail first p ≡ (get_or ls p no_lift).time

by_place : {A : Type 0} (p first : ℕ) (a b c : A) → (p < first → a ≡ c) → (first ≤ p → b ≡ c) → cond (ltb p first) a b ≡ c
by_place {A} p first a b c f g = go (ltb p first) refl
  where
    go : (t : Bool) → ltb p first ≡ t → cond t a b ≡ c
    go true e = f (ltb-true p first e)
    go false e = g (ltb-false p first e)

module _ (ls : List Lift) (g : GoodLifts ls) where
  -- the record of lift p is in these bytes
  abbrev Stands : List ℕ → ℕ → ℕ → Type 0
  Stands s at p = (at + 32 ≤ length s) × (part s at 32 ≡ row_of (get_or ls p no_lift))

  pub held : (s : List ℕ) (at p : ℕ) → p < length ls → Stands s at p
      → Holds s at (get_or ls p no_lift).time (stored (get_or ls p no_lift).load) (get_or ls p no_lift).note
  held s at p h w =
      let l = good_at ls p g h in
      let k = within_limits (get_or ls p no_lift).load l.load in
      record_read (get_or ls p no_lift).time (stored (get_or ls p no_lift).load) (get_or ls p no_lift).note (omega (arith, l.time))
      (omega (arith, k.high))
      l.note s at w.0 w.1

  reads : (lifts tail : List ℕ) (first : ℕ) → ((p : ℕ) → p < length ls → p < first → Stands lifts (p * 32) p)
      → ((p : ℕ) → p < length ls → first ≤ p → Stands tail ((p - first) * 32) p) → Reads lifts tail first ls
  unfolding record_in code_in time_in
  reads lifts tail first a b = record {
    rows = λ p h. by_place p first _ _ _ (λ q. (a p h q).1) (λ q. (b p h q).1);
    loads = λ p h.
        by_place p first _ _ _ (λ q. (held lifts (p * 32) p h (a p h q)).code_is)
        (λ q. (held tail ((p - first) * 32) p h (b p h q)).code_is);
    times = λ p h.
        by_place p first _ _ _ (λ q. (held lifts (p * 32) p h (a p h q)).time_is)
        (λ q. (held tail ((p - first) * 32) p h (b p h q)).time_is);
  }

  -- record p of the lift area
  pub row_in_area : (p : ℕ) → p < length ls → part (lift_area ls) (p * 32) 32 ≡ row_of (get_or ls p no_lift)
  unfolding lift_area records_of
  row_in_area p h =
      part_append_left (records_of ls) _ (p * 32) 32 (omega (arith, length_records ls g))
      ∙ row_at 32 (map row_of ls) (wide_records ls g) p (row_of no_lift) (omega (arith, length-map ls row_of))
      ∙ get_or-map row_of ls p no_lift

  module _ (few : length ls ≤ 320) where
    pub closed_reads : Reads (lift_area ls) (lift_area ls) 320 ls
    closed_reads =
        reads (lift_area ls) (lift_area ls) 320
        (λ p h q. (omega (arith, length_lift_area ls g few), row_in_area p h)) (λ p h q. absurd (omega arith))

    -- the same in the page where it stands
    row_in_page : (i a p : ℕ) → p < length ls → i * 512 + a ≡ p * 32 → a + 32 ≤ 512 → i < 20
        → part (lift_page ls i) a 32 ≡ row_of (get_or ls p no_lift)
    row_in_page i a p h e k q =
        part_part (lift_area ls) (i * 512) 512 a 32 (omega (arith, length_lift_area ls g few)) k
        ∙ ap (λ (b : ℕ). part (lift_area ls) b 32) e
        ∙ row_in_area p h

    -- a page that is full, and the buffer behind it
    pub open_reads : (nand : List ℕ) (slot : ℕ) → slot * 16384 + 16384 ≤ length nand
        → (0 < length ls → (i : ℕ) → i < 20 → page_of nand slot i ≡ open_page ls i)
        → Reads (pages_of nand slot 0 20) (page_buffer ls) (length ls / 16 * 16) ls
    unfolding open_page
    open_reads nand slot room pages =
        reads (pages_of nand slot 0 20) (page_buffer ls) (length ls / 16 * 16) full rest
      where
        full : (p : ℕ) → p < length ls → p < length ls / 16 * 16 → Stands (pages_of nand slot 0 20) (p * 32) p
        full p h q =
            let e : p / 16 * 512 + p % 16 * 32 ≡ p * 32 = omega arith in
            let i : p / 16 < 20 = omega arith in
            let z : 0 + p / 16 ≡ p / 16 = omega arith in
            let l = length_part nand (page_start slot 0) 10240 (omega arith) in (
              omega arith,
              ap (λ (b : ℕ). part (pages_of nand slot 0 20) b 32) (sym e)
                  ∙ part_in_page nand slot 0 20 (p / 16) (p % 16 * 32) 32 room (omega arith) i (omega arith)
                  ∙ ap (λ (b : ℕ). part (page_of nand slot b) (p % 16 * 32) 32) z
                  ∙ ap (λ (page : List ℕ). part page (p % 16 * 32) 32)
                  (pages (omega arith) (p / 16) i ∙ rw (lt-ltb (p / 16) (length ls / 16) (omega arith)))
                  ∙ row_in_page (p / 16) (p % 16 * 32) p h e (omega arith) i,
            )

        rest : (p : ℕ) → p < length ls → length ls / 16 * 16 ≤ p → Stands (page_buffer ls) ((p - length ls / 16 * 16) * 32) p
        rest p h q =
            let i : length ls / 16 < 20 = omega arith in (
              omega (arith, length_page_buffer ls g),
              ap (λ (page : List ℕ). part page ((p - length ls / 16 * 16) * 32) 32) (buffer_page ls g i)
                  ∙ row_in_page (length ls / 16) ((p - length ls / 16 * 16) * 32) p h (omega arith) (omega arith) i,
            )

-- ---- the open segment of a history

module _ (h : History) (g : Good h) where
  abbrev slot : ℕ
  slot = slot_of (open_serial h.log) h.log.slots

  slot_there : slot < h.log.slots
  slot_there = slot_below h.log.slots (open_serial h.log) (omega (arith, g.least))

  open_page_lem : 0 < length h.log.current → (p : ℕ) → p < 32 → page_of (nand_image h) slot p ≡ open_page h.log.current p
  open_page_lem q p l =
      page_of_nand h g slot p slot_there l
      ∙ page_open h.log.form h.log.slots h.log.oldest h.log.closed h.log.current (oldest_heads h) p
      (omega (arith, g.serial)) (g.busy q)

  pub current_reads : Reads (pages_of (nand_image h) (slot_of (open_serial h.log) h.log.slots) 0 20)
      (page_buffer h.log.current)
      (length h.log.current / 16 * 16) h.log.current
  current_reads =
      open_reads h.log.current g.segment.lifts g.segment.few (nand_image h) slot
      (omega (arith, length_nand h g, slot_there))
      (λ q i l. open_page_lem q i (omega arith))
