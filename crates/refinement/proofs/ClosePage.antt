-- What a close leaves in its slot, page by page, is the closed segment's image: each page programmed from the open segment's parts, every
-- other page of the slot as the open segment had it. Assumes nothing.
use mathlib.Core.Path.{◌≡◌, refl, sym, ap, ap₂, subst, ◌∙◌}
use mathlib.Core.Bool.{Bool, true, false, cond, not, ◌&&◌}
use mathlib.Core.List.{List, [], ◌++◌}
use Prim.Native.Nat.{ℕ, ◌+◌, ◌-◌, ◌*◌, ◌/◌, ◌%◌, ◌≤◌, ◌<◌}
use native.Mathlib.Decide.{dec_lt}
use native.Mathlib.Omega.{arith}
use lib.Dec.{eqb, ltb}
use lib.ListN.{length, drop, length-append, length-drop}
use lib.Seq.{take-length}
use borrow.Author.Tests.{ltb-false, lt-ltb, le-ltb, eqb-true, eqb-false}
use Rattle.form.specs.declared.Form.{Form}
use Rattle.codec.specs.Area.{part, repeated}
use Rattle.codec.proofs.Areas.{length_repeated, part_append_left, part_append_right, part_repeated, part_add}
use Rattle.flash.specs.Chip.{erased_page}
use Rattle.bloom.specs.Bloom.{section_of}
use Rattle.bloom.specs.Pages.{each, five_sections, segment_sections, sections_from, bloom_page, nor_section}
use Rattle.bloom.proofs.Each.{length_each, get_or_each}
use Rattle.bloom.proofs.Pages.{sections_from_segment}
use Rattle.skiplist.specs.declared.Pointer.{Pointer}
use Rattle.header.specs.Header.{header_page}
use Rattle.segment.specs.Pages.{page_due, close_page}
use Rattle.segment.proofs.TreeRun.{tree_run}
use Rattle.segment.proofs.Tests.{due_lifts, due_tree, due_last}
use Rattle.segment.proofs.Turns.{image_lifts, image_tree, image_bloom, image_header}
use Rattle.tree.specs.Rules.{buckets_of}
use Rattle.tree.proofs.Built.{buckets_of_lem, counted}
use Rattle.tree.proofs.Written.{tree_part, tree_rest}
use Rattle.search.proofs.Rows.{row_at}
use Rattle.paper_log.specs.Log.{Lift, codes}
use Rattle.refinement.specs.Inner.Segments.{records_of, lift_area, lift_page, page_buffer, tree_area, bucket_count, whole_sections, bloom_buffer, nor_of, closing_of, closed_page, open_page}
use Rattle.refinement.proofs.PageLengths.{length_area}
use Rattle.refinement.proofs.Good.{GoodLifts, Built}
use Rattle.refinement.proofs.Lengths.{length_records, length_codes, length_sections, wide_sections, good_loads}

pub to_end : (r : List ℕ) (at : ℕ) → part r at (length (drop at r)) ≡ drop at r
unfolding part
to_end r at = take-length (drop at r)

-- below, at, above
pub lt_cases : {P : Type 0} (a b : ℕ) → (a < b → P) → (a ≡ b → P) → (b < a → P) → P
lt_cases {P = P} a b f g h = go (dec_lt a b) (dec_lt b a)
  where
    go : Dec (a < b) → Dec (b < a) → P
    go (yes p) q = f p
    go (no p) (yes q) = h q
    go (no p) (no q) = g (omega arith)

-- a part that runs past the end of a list into the bytes behind it
pub past_end : (r : List ℕ) (at n v m : ℕ) → at ≤ length r → length r ≤ at + n → at + n ≤ length r + m
    → part (r ++ repeated m v) at n ≡ drop at r ++ repeated (n - length (drop at r)) v
past_end r at n v m a b c =
    let d = length-drop at r in
    let k : length (drop at r) + (n - length (drop at r)) ≡ n = omega arith in
    let l = length_repeated m v in
    ap (part (r ++ repeated m v) at) (sym k) ∙ part_add (r ++ repeated m v) at (length (drop at r)) (n - length (drop at r))
    ∙ ap₂ ◌++◌ (part_append_left r (repeated m v) at (length (drop at r)) (omega arith) ∙ to_end r at)
    (part_append_right r (repeated m v) 0 (at + length (drop at r)) (n - length (drop at r)) (omega arith) (omega arith)
    ∙ part_repeated m v 0 (n - length (drop at r)) (omega arith))

-- ---- lift pages

module _ (ls : List Lift) (g : GoodLifts ls) where
  -- a page past the last lift is erased
  pub lifts_past : (p : ℕ) → p < 20 → length ls ≤ p * 16 → lift_page ls p ≡ erased_page
  unfolding lift_area
  lifts_past p h k =
      let n = length_records ls g in
      let m = length_repeated (10240 - length (records_of ls)) 255 in
      part_append_right (records_of ls) (repeated (10240 - length (records_of ls)) 255) (p * 512 - length (records_of ls)) (p * 512) 512 (omega arith) (omega arith)
      ∙ part_repeated (10240 - length (records_of ls)) 255 (p * 512 - length (records_of ls)) 512 (omega arith)

  -- the page buffer is the page that is not full
  pub buffer_page : length ls / 16 < 20 → page_buffer ls ≡ lift_page ls (length ls / 16)
  unfolding page_buffer lift_area
  buffer_page h =
      let n = length_records ls g in
      sym (past_end (records_of ls) (length ls / 16 * 512) 512 255 (10240 - length (records_of ls)) (omega arith) (omega arith) (omega arith))

-- ---- the closed segment

module _ (ls : List Lift) (b : Built ls) where
  pub few_buckets : bucket_count ls ≤ 36
  few_buckets = omega (arith, ap length (buckets_of_lem (codes ls) b.tree b.is), (counted (codes ls) (good_loads ls b.lifts) b.tree b.is).few)

  -- tree page i
  pub tree_closed : (i : ℕ) → i < 9 → tree_run (nor_of ls) (bucket_count ls) i ≡ part (tree_area ls) (i * 512) 512
  unfolding tree_run nor_of tree_area
  tree_closed i h = tree_part (buckets_of (codes ls)) _ (i * 512) 512 few_buckets (omega arith)

  pub tree_past : (i : ℕ) → i < 9 → bucket_count ls ≤ i * 4 → part (tree_area ls) (i * 512) 512 ≡ erased_page
  unfolding tree_area
  tree_past i h k = tree_rest (buckets_of (codes ls)) (i * 512) 512 few_buckets (omega arith) (omega arith)

  -- the sections
  section_in_nor : (j : ℕ) → (j + 1) * 64 ≤ length (codes ls) → nor_section (nor_of ls) j ≡ section_of (part (codes ls) (64 * j) 64)
  unfolding nor_of whole_sections
  section_in_nor j h =
      let t = length_area ls in
      let c = length_codes ls in
      let n = length_sections (codes ls) in
      let e : 128 * j ≡ j * 128 = omega arith in
      let m = length_each (λ j. section_of (part (codes ls) (64 * j) 64)) 0 (length (codes ls) / 64) in
      let z : 0 + j ≡ j = omega arith in
      part_append_right (tree_area ls) _ (128 * j) (4608 + 128 * j) 128 (omega arith) (room j h)
      ∙ part_append_left (whole_sections (codes ls)) _ (128 * j) 128 (omega arith)
      ∙ ap (λ (a : ℕ). part (whole_sections (codes ls)) a 128) e
      ∙ row_at 128 (each (λ j. section_of (part (codes ls) (64 * j) 64)) 0 (length (codes ls) / 64)) (wide_sections (codes ls) (length (codes ls) / 64)) j [] (omega arith)
      ∙ get_or_each (λ j. section_of (part (codes ls) (64 * j) 64)) 0 (length (codes ls) / 64) j [] (omega arith)
      ∙ ap (λ (i : ℕ). section_of (part (codes ls) (64 * i) 64)) z
    where
      room : (j : ℕ) → (j + 1) * 64 ≤ length (codes ls)
          → 128 * j + 128 ≤ length (whole_sections (codes ls) ++ repeated (1536 - length (whole_sections (codes ls))) 255)
      room j h =
          omega (arith, length_sections (codes ls), length-append (whole_sections (codes ls)) (repeated (1536 - length (whole_sections (codes ls))) 255))

  pub sections_closed : sections_from (nor_of ls) (bloom_buffer (codes ls)) (length ls) ≡ segment_sections (codes ls)
  unfolding bloom_buffer
  sections_closed =
      let e : length (codes ls) / 64 * 64 ≡ 64 * (length (codes ls) / 64) = omega arith in
      ap (sections_from (nor_of ls) (bloom_buffer (codes ls))) (sym (length_codes ls))
      ∙ sections_from_segment (nor_of ls) (bloom_buffer (codes ls)) (codes ls) section_in_nor (ap (λ (n : ℕ). section_of (drop n (codes ls))) e)

  -- each page of the slot after the close
  module _ (v : Form) (n : ℕ) (heads : List Pointer) where
    abbrev after : ℕ → List ℕ
    after p = cond (page_due (length ls) (bucket_count ls) p) (close_page (nor_of ls) (closing_of v n ls heads) p) (open_page ls p)

    open_past : (p : ℕ) → length ls / 16 ≤ p → open_page ls p ≡ erased_page
    unfolding open_page
    open_past p h = rw (le-ltb p (length ls / 16) h)

    open_full : (p : ℕ) → p < length ls / 16 → open_page ls p ≡ lift_page ls p
    unfolding open_page
    open_full p h = rw (lt-ltb p (length ls / 16) h)

    -- lift pages: the full ones stand, the part-filled one is programmed from the buffer
    in_lifts : (p : ℕ) → p < 20 → after p ≡ lift_page ls p
    unfolding closing_of
    in_lifts p h = rw (← due_lifts (length ls) (bucket_count ls) p h) (go (eqb (length ls % 16) 0) (eqb p (length ls / 16)) refl refl)
      where
        go : (m q : Bool) → eqb (length ls % 16) 0 ≡ m → eqb p (length ls / 16) ≡ q
            → cond (not m && q) (close_page (nor_of ls) (closing_of v n ls heads) p) (open_page ls p) ≡ lift_page ls p
        go true q em eq = open_done (eqb-true (length ls % 16) 0 em)
          where
            open_done : length ls % 16 ≡ 0 → open_page ls p ≡ lift_page ls p
            open_done z = lt_cases p (length ls / 16) (λ l. open_full p l)
                (λ e. open_past p (omega arith) ∙ sym (lifts_past ls b.lifts p h (omega arith)))
                (λ l. open_past p (omega arith) ∙ sym (lifts_past ls b.lifts p h (omega arith)))
        go false true em eq =
            let e : p ≡ length ls / 16 = eqb-true p (length ls / 16) eq in
            image_lifts (nor_of ls) (closing_of v n ls heads) p h ∙ buffer_page ls b.lifts (omega arith) ∙ ap (lift_page ls) (sym e)
        go false false em eq =
            let f = eqb-false p (length ls / 16) eq in
            lt_cases p (length ls / 16) (λ l. open_full p l) (λ e. absurd (f e))
            (λ l. open_past p (omega arith) ∙ sym (lifts_past ls b.lifts p h (omega arith)))

    -- tree pages
    in_tree : (p : ℕ) → 20 ≤ p → p < 29 → after p ≡ part (tree_area ls) ((p - 20) * 512) 512
    unfolding closing_of
    in_tree p h k = rw (← due_tree (length ls) (bucket_count ls) p h k) (go (ltb ((p - 20) * 4) (bucket_count ls)) refl)
      where
        go : (t : Bool) → ltb ((p - 20) * 4) (bucket_count ls) ≡ t
            → cond t (close_page (nor_of ls) (closing_of v n ls heads) p) (open_page ls p) ≡ part (tree_area ls) ((p - 20) * 512) 512
        go true e = image_tree (nor_of ls) (closing_of v n ls heads) p h k ∙ tree_closed (p - 20) (omega arith)
        go false e =
            open_past p (omega (arith, b.few)) ∙ sym (tree_past (p - 20) (omega arith) (ltb-false ((p - 20) * 4) (bucket_count ls) e))

    -- Bloom pages and header
    in_bloom : after 29 ≡ bloom_page (segment_sections (codes ls)) 0
    unfolding closing_of
    in_bloom =
        rw (← due_last (length ls) (bucket_count ls) 29 (omega arith) (omega arith))
        (image_bloom (nor_of ls) (closing_of v n ls heads) 29 (omega arith) (omega arith) ∙ ap (λ (ss : List (List ℕ)). bloom_page ss 0) sections_closed)

    in_second : after 30 ≡ cond (five_sections (length ls)) (bloom_page (segment_sections (codes ls)) 1) erased_page
    unfolding closing_of
    in_second = rw (← due_last (length ls) (bucket_count ls) 30 (omega arith) (omega arith)) (go (five_sections (length ls)))
      where
        go : (t : Bool) → cond t (close_page (nor_of ls) (closing_of v n ls heads) 30) (open_page ls 30)
            ≡ cond t (bloom_page (segment_sections (codes ls)) 1) erased_page
        go true =
            image_bloom (nor_of ls) (closing_of v n ls heads) 30 (omega arith) (omega arith) ∙ ap (λ (ss : List (List ℕ)). bloom_page ss 1) sections_closed
        go false = open_past 30 (omega (arith, b.few))

    in_header_lem : after 31 ≡ header_page (closing_of v n ls heads)
    in_header_lem =
        rw (← due_last (length ls) (bucket_count ls) 31 (omega arith) (omega arith)) (image_header (nor_of ls) (closing_of v n ls heads) 31 (omega arith))

    pub page_after_close : (p : ℕ) → p < 32 → after p ≡ closed_page v n ls heads p
    unfolding closed_page
    page_after_close p h =
        lt_cases p 20 (λ l. rw (lt-ltb p 20 l) (in_lifts p l)) (λ e. later p h (omega arith)) (λ l. later p h (omega arith))
      where
        later : (p : ℕ) → p < 32 → 20 ≤ p → after p ≡ closed_page v n ls heads p
        later p h k =
            lt_cases p 29 (λ l. rw (le-ltb p 20 k, lt-ltb p 29 l) (in_tree p k l))
            (λ e. subst (λ (q : ℕ). after q ≡ closed_page v n ls heads q) (sym e) in_bloom)
            (λ l. lt_cases p 30 (λ m. absurd (omega arith)) (λ e. subst (λ (q : ℕ). after q ≡ closed_page v n ls heads q) (sym e) in_second)
            (λ m. let e : p ≡ 31 = omega arith in subst (λ (q : ℕ). after q ≡ closed_page v n ls heads q) (sym e) in_header_lem))
