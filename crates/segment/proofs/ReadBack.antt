-- What a close programmed is read back: header, Bloom sections and tree of the slot, in terms of what the close was given.
-- Page by page, from page-closed. Assumes nothing.
use mathlib.Core.Path.{◌≡◌, sym, ap, ◌∙◌}
use mathlib.Core.Bool.{true, false, cond}
use mathlib.Core.List.{List, ◌++◌}
use Prim.Native.Nat.{ℕ, suc, ◌+◌, ◌-◌, ◌*◌, ◌/◌, ◌%◌, ◌≤◌, ◌<◌}
use native.Mathlib.Decide.{dec_lt}
use native.Mathlib.Omega.{arith}
use lib.ListN.{length}
use borrow.Author.Tests.{lt-ltb, le-ltb, eq-eqb}
use Rattle.codec.specs.Area.{part}
use Rattle.codec.proofs.Areas.{length_part, part_add, part_part, agree_at_parts}
use Rattle.flash.specs.Chip.{page_start, page_of, pages_of, erased_page}
use Rattle.bloom.specs.Pages.{section_count, sections_from, bloom_page, sections_in}
use Rattle.bloom.proofs.Stored.{length_sections_from, length_section}
use Rattle.bloom.proofs.Pages.{pages_read_back}
use Rattle.header.specs.declared.Closing.{Closing}
use Rattle.header.specs.Header.{header_page}
use Rattle.segment.specs.Pages.{page_due, close_page, close_programmed}
use Rattle.segment.proofs.ClosedPages.{Shaped, length_closed, page_closed}
use Rattle.segment.proofs.Tests.{due_tree}
use Rattle.segment.proofs.Turns.{image_tree}
use Rattle.segment.proofs.TreeArea.{tree_area, length_tree_area, area_page, area_bucket, page_past}
use Rattle.segment.proofs.TreeRun.{tree_run}

-- ---- pages side by side

module _ (nand : List ℕ) (slot p : ℕ) where
  -- pages are the first of them and the rest
  pub pages_first : (n : ℕ) → pages_of nand slot p (suc n) ≡ page_of nand slot p ++ pages_of nand slot (suc p) n
  pages_first n =
      let e : suc n * 512 ≡ 512 + n * 512 = omega arith in
      let f : page_start slot p + 512 ≡ page_start slot (suc p) = omega arith in
      ap (part nand (page_start slot p)) e ∙ part_add nand (page_start slot p) 512 (n * 512)
      ∙ ap (λ (k : ℕ). page_of nand slot p ++ part nand k (n * 512)) f

  -- a part that lies in one of them
  pub part_in_page : (n i a m : ℕ) → slot * 16384 + 16384 ≤ length nand → p + n ≤ 32 → i < n → a + m ≤ 512
      → part (pages_of nand slot p n) (i * 512 + a) m ≡ part (page_of nand slot (p + i)) a m
  part_in_page n i a m h k l j =
      let e : page_start slot p + (i * 512 + a) ≡ page_start slot (p + i) + a = omega arith in
      part_part nand (page_start slot p) (n * 512) (i * 512 + a) m (omega arith) (omega arith) ∙ ap (λ (b : ℕ). part nand b m) e
      ∙ sym (part_part nand (page_start slot (p + i)) 512 a m (omega arith) (omega arith))

  -- page i of them
  pub page_in_pages : (n i : ℕ) → slot * 16384 + 16384 ≤ length nand → p + n ≤ 32 → i < n
      → part (pages_of nand slot p n) (i * 512) 512 ≡ page_of nand slot (p + i)
  page_in_pages n i h k l =
      let e : page_start slot p + i * 512 ≡ page_start slot (p + i) = omega arith in
      part_part nand (page_start slot p) (n * 512) (i * 512) 512 (omega arith) (omega arith) ∙ ap (λ (b : ℕ). part nand b 512) e

module _ (nor : List ℕ) (c : Closing) (shaped : Shaped nor c) (slots slot : ℕ) (there : slot < slots) (nand : List ℕ)
    (size : length nand ≡ slots * 16384) where
  abbrev closed : List ℕ
  closed = close_programmed nand nor slot c

  room : slot * 16384 + 16384 ≤ length nand
  room = omega arith

  room_closed : slot * 16384 + 16384 ≤ length closed
  room_closed = omega (arith, length_closed nor c shaped slots slot there nand size)

  page : (p : ℕ) → p < 32 → page_of closed slot p ≡ cond (page_due c.count c.buckets p) (close_page nor c p) (page_of nand slot p)
  page = page_closed nor c shaped slots slot there nand size

  -- ---- header

  pub header_closed : page_of (close_programmed nand nor slot c) slot 31 ≡ header_page c
  unfolding page_due close_page
  header_closed = page 31 (omega arith)

  -- ---- Bloom

  abbrev sections : List (List ℕ)
  sections = sections_from nor c.bloom c.count

  pub bloom_closed : pages_of (close_programmed nand nor slot c) slot 29 2
      ≡ bloom_page (sections_from nor c.bloom c.count) 0 ++ page_of (close_programmed nand nor slot c) slot 30
  unfolding page_due close_page
  bloom_closed = pages_first closed slot 29 1 ∙ ap (λ (t : List ℕ). t ++ page_of closed slot 30) (page 29 (omega arith))

  second : 257 ≤ c.count → page_of closed slot 30 ≡ bloom_page sections 1
  unfolding page_due close_page
  second h = page 30 (omega arith) ∙ rw (eq-eqb (section_count c.count) 5 (omega (arith, shaped.most)))

  -- the sections of the open segment are those of the closed one
  pub sections_closed : sections_in (pages_of (close_programmed nand nor slot c) slot 29 2) (section_count c.count)
      ≡ sections_from nor c.bloom c.count
  sections_closed =
      let l = length_sections_from nor c.bloom c.count in
      let m = length_part closed (page_start slot 30) 512 (omega (arith, room_closed)) in
      rw (bloom_closed, ← l)
      (pages_read_back sections (page_of closed slot 30) (omega (arith, shaped.some)) (omega (arith, shaped.most))
      (λ j h. length_section nor c.bloom c.count j shaped.nor_size shaped.bloom_size shaped.most (omega arith))
      (omega arith) (λ h. second (omega arith)))

  -- ---- tree

  tree_page_due : (i : ℕ) → i < 9 → i * 4 < c.buckets → page_of closed slot (20 + i) ≡ tree_run nor c.buckets i
  tree_page_due i h k =
      let d : 20 + i - 20 ≡ i = omega arith in
      let e : page_due c.count c.buckets (20 + i) ≡ true =
      sym (due_tree c.count c.buckets (20 + i) (omega arith) (omega arith))
      ∙ lt-ltb ((20 + i - 20) * 4) c.buckets (omega arith) in
      page (20 + i) (omega arith) ∙ rw e (image_tree nor c (20 + i) (omega arith) (omega arith) ∙ ap (tree_run nor c.buckets) d)

  tree_page_not : (i : ℕ) → i < 9 → c.buckets ≤ i * 4 → page_of closed slot (20 + i) ≡ page_of nand slot (20 + i)
  tree_page_not i h k =
      let e : page_due c.count c.buckets (20 + i) ≡ false =
      sym (due_tree c.count c.buckets (20 + i) (omega arith) (omega arith))
      ∙ le-ltb ((20 + i - 20) * 4) c.buckets (omega arith) in
      page (20 + i) (omega arith) ∙ rw e

  -- bucket b is as it was in NOR
  pub bucket_closed : (b : ℕ) → b < c.buckets → part (pages_of (close_programmed nand nor slot c) slot 20 9) (b * 128) 128
      ≡ part nor (b * 128) 128
  bucket_closed b h =
      let few = shaped.few in
      let wide : 4608 ≤ length nor = omega (arith, shaped.nor_size) in
      let e : b * 128 ≡ b / 4 * 512 + b % 4 * 128 = omega arith in
      let l = length_tree_area nor c.buckets wide few in
      ap (λ (k : ℕ). part (pages_of closed slot 20 9) k 128) e
      ∙ part_in_page closed slot 20 9 (b / 4) (b % 4 * 128) 128 room_closed (omega arith) (omega arith) (omega arith)
      ∙ ap (λ (t : List ℕ). part t (b % 4 * 128) 128)
      (tree_page_due (b / 4) (omega arith) (omega arith) ∙ sym (area_page nor c.buckets wide few (b / 4) (omega arith)))
      ∙ part_part (tree_area nor c.buckets) (b / 4 * 512) 512 (b % 4 * 128) 128 (omega arith) (omega arith)
      ∙ ap (λ (k : ℕ). part (tree_area nor c.buckets) k 128) (sym e) ∙ area_bucket nor c.buckets wide few b h

  -- the tree pages, where those that are not due were erased
  pub tree_closed : ((p : ℕ) → 20 ≤ p → p < 29 → page_of nand slot p ≡ erased_page)
      → pages_of (close_programmed nand nor slot c) slot 20 9 ≡ tree_area nor c.buckets
  tree_closed blank =
      let few = shaped.few in
      let wide : 4608 ≤ length nor = omega (arith, shaped.nor_size) in
      agree_at_parts (pages_of closed slot 20 9) (tree_area nor c.buckets) 512 9 (omega arith)
      (length_part closed (page_start slot 20) 4608 (omega (arith, room_closed))) (length_tree_area nor c.buckets wide few)
      (λ i h.
      page_in_pages closed slot 20 9 i room_closed (omega arith) h ∙ go wide few i h (dec_lt (i * 4) c.buckets)
      ∙ sym (area_page nor c.buckets wide few i h))
    where
      go : 4608 ≤ length nor → c.buckets ≤ 36 → (i : ℕ) → i < 9 → Dec (i * 4 < c.buckets)
          → page_of closed slot (20 + i) ≡ tree_run nor c.buckets i
      go wide few i h (yes k) = tree_page_due i h k
      go wide few i h (no k) =
          tree_page_not i h (omega arith) ∙ blank (20 + i) (omega arith) (omega arith)
          ∙ sym (page_past nor c.buckets wide few i h (omega arith))
