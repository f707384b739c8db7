-- The Bloom pages give a segment's sections back, so a load of the segment is never passed over.
use mathlib.Core.Path.{◌≡◌, sym, ap, ◌∙◌}
use mathlib.Core.Bool.{true}
use mathlib.Core.List.{List, [], ◌++◌}
use Prim.Native.Nat.{ℕ, ◌+◌, ◌-◌, ◌*◌, ◌/◌, ◌%◌, ◌≤◌, ◌<◌, min}
use native.Mathlib.Decide.{dec_lt, dec_le}
use native.Mathlib.Omega.{arith}
use lib.ListN.{length, get_or, drop, length-append, length-take, length-drop, get_or-append}
use lib.Seq.{get_or-append-add, ext_get_or, take_all}
use Rattle.codec.specs.Area.{part}
use Rattle.codec.proofs.Areas.{get_d_part}
use Rattle.bitset.specs.Set.{elem}
use Rattle.bitset.proofs.Elem.{elem_at, elem_stands}
use Rattle.bloom.specs.Bloom.{section_of, may_hold}
use Rattle.bloom.specs.Pages.{each, section_count, fragment_length, segment_sections, nor_section, sections_from}
use Rattle.bloom.specs.Pages.{bloom_page, section_in, sections_in}
use Rattle.bloom.proofs.Section.{length_section_of, bloom_never_misses, may_hold_at}
use Rattle.bloom.proofs.Each.{length_each, get_or_each}
use Rattle.bloom.proofs.Fragments.{Length, fragment_length_lem, fragment_room, page_at, length_page}
use Rattle.bloom.proofs.Stored.{length_section_in, section_front, section_back}
use Rattle.bloom.proofs.Stored.{length_sections_from, whole_section, last_section}

-- ---- what the pages hold is read back

-- one to five sections of 128 bytes, and the page after the first Bloom page, which is used for five sections only
module _ (ss : List (List ℕ)) (second : List ℕ) (some : 1 ≤ length ss) (five : length ss ≤ 5)
    (whole : (j : ℕ) → j < length ss → length (get_or ss j []) ≡ 128) (room : 512 ≤ length second)
    (used : 5 ≤ length ss → second ≡ bloom_page ss 1) where
  abbrev L : ℕ
  L = fragment_length (length ss)

  abbrev pages : List ℕ
  pages = bloom_page ss 0 ++ second

  facts : Length (length ss)
  facts = fragment_length_lem (length ss) some five

  front : length (bloom_page ss 0) ≡ 512
  front = length_page ss 0 facts

  both : 1024 ≤ length pages
  both = simp length-append (omega (arith, front))

  byte_back : (j n : ℕ) → j < length ss → n < 128 → get_or (section_in pages L j) n 0 ≡ get_or (get_or ss j []) n 0
  byte_back j n h k = go (dec_lt n L)
    where
      r : j * L + L ≤ 512
      r = fragment_room (length ss) j facts h

      go : Dec (n < L) → get_or (section_in pages L j) n 0 ≡ get_or (get_or ss j []) n 0
      go (yes l) =
          let e : 0 * L + n ≡ n = omega arith in
          section_front pages L j both r facts.half n k l
          ∙ get_or-append (bloom_page ss 0) second 0 (j * L + n) (omega (arith, front, r)) ∙ page_at ss 0 j n l
          ∙ ap (λ (m : ℕ). get_or (get_or ss j []) m 0) e
      go (no f) = later (dec_le (length ss) 4)
        where
          later : Dec (length ss ≤ 4) → get_or (section_in pages L j) n 0 ≡ get_or (get_or ss j []) n 0
          later (yes q) = absurd (omega (arith, facts.four q))
          later (no g) =
              let a : 512 + j * L + (n - L) ≡ length (bloom_page ss 0) + (j * L + (n - L)) = omega (arith, front) in
              let e : 1 * L + (n - L) ≡ n = omega arith in
              section_back pages L j both r facts.half n k (omega arith)
              ∙ ap (λ (m : ℕ). get_or pages m 0) a ∙ get_or-append-add (bloom_page ss 0) second (j * L + (n - L)) 0
              ∙ ap (λ (t : List ℕ). get_or t (j * L + (n - L)) 0) (used (omega arith))
              ∙ page_at ss 1 j (n - L) (omega (arith, facts.half)) ∙ ap (λ (m : ℕ). get_or (get_or ss j []) m 0) e

  section_back_is : (j : ℕ) → j < length ss → section_in pages L j ≡ get_or ss j []
  section_back_is j h =
      let m = length_section_in pages L j both (fragment_room (length ss) j facts h) facts.half in
      ext_get_or 0 (section_in pages L j) (get_or ss j []) (m ∙ sym (whole j h)) (λ n l. byte_back j n h (omega arith))

  pub pages_read_back : sections_in (bloom_page ss 0 ++ second) (length ss) ≡ ss
  unfolding sections_in
  pages_read_back =
      let m = length_each (section_in pages L) 0 (length ss) in
      ext_get_or [] (each (section_in pages L) 0 (length ss)) ss m (λ j l.
      let h : j < length ss = omega arith in
      let e : 0 + j ≡ j = omega arith in
      get_or_each (section_in pages L) 0 (length ss) j [] h ∙ ap (section_in pages L) e ∙ section_back_is j h)

-- ---- a segment's sections

module _ (codes : List ℕ) where
  pub length_segment_sections : length (segment_sections codes) ≡ section_count (length codes)
  unfolding segment_sections
  length_segment_sections = length_each _ 0 (section_count (length codes))

  pub segment_section : (j : ℕ) → j < section_count (length codes)
      → get_or (segment_sections codes) j [] ≡ section_of (part codes (64 * j) 64)
  unfolding segment_sections
  segment_section j h =
      let e : 0 + j ≡ j = omega arith in
      get_or_each (λ j. section_of (part codes (64 * j) 64)) 0 (section_count (length codes)) j [] h
      ∙ ap (λ (j : ℕ). section_of (part codes (64 * j) 64)) e

  pub segment_whole : (j : ℕ) → j < length (segment_sections codes) → length (get_or (segment_sections codes) j []) ≡ 128
  segment_whole j h =
      ap length (segment_section j (omega (arith, length_segment_sections))) ∙ length_section_of (part codes (64 * j) 64)

  length_part_left : (j : ℕ) → length (part codes (64 * j) 64) ≡ min 64 (length codes - 64 * j)
  unfolding part
  length_part_left j = length-take 64 (drop (64 * j) codes) ∙ ap (min 64) (length-drop (64 * j) codes)

  elem_part : (i : ℕ) → i < length codes → elem (get_or codes i 0) (part codes (64 * (i / 64)) 64) ≡ true
  elem_part i h =
      let e : 64 * (i / 64) + i % 64 ≡ i = omega arith in
      let g : get_or (part codes (64 * (i / 64)) 64) (i % 64) 0 ≡ get_or codes i 0 =
      get_d_part codes (64 * (i / 64)) 64 (i % 64) (omega arith) ∙ ap (λ (n : ℕ). get_or codes n 0) e in
      rw (← g) (elem_at (part codes (64 * (i / 64)) 64) (i % 64) (omega (arith, length_part_left (i / 64))))

  -- a load of the segment is not passed over
  pub segment_never_misses : (code : ℕ) → elem code codes ≡ true → may_hold (segment_sections codes) code ≡ true
  segment_never_misses code e =
      let s = elem_stands code codes e in
      let j : s.at / 64 < section_count (length codes) = omega (arith, s.inside) in
      let m : elem code (part codes (64 * (s.at / 64)) 64) ≡ true = rw s.is at (elem_part s.at s.inside) in
      may_hold_at (segment_sections codes) (s.at / 64) code (omega (arith, length_segment_sections))
      (rw (segment_section (s.at / 64) j) (bloom_never_misses _ code m))

-- nor once its sections are read from its Bloom pages
pub bloom_never_misses_in_pages : (codes second : List ℕ) (code : ℕ) → length codes ≤ 320 → 512 ≤ length second
    → (5 ≤ section_count (length codes) → second ≡ bloom_page (segment_sections codes) 1) → elem code codes ≡ true
    → may_hold (sections_in (bloom_page (segment_sections codes) 0 ++ second) (section_count (length codes))) code ≡ true
bloom_never_misses_in_pages codes second code most room used e =
    let l = length_segment_sections codes in
    let s = elem_stands code codes e in
    let ss = segment_sections codes in
    let back : sections_in (bloom_page ss 0 ++ second) (length ss) ≡ ss =
    pages_read_back (segment_sections codes) second (omega (arith, s.inside)) (omega arith) (segment_whole codes) room
    (λ h. used (omega arith)) in
    rw (← l, back) (segment_never_misses codes code e)

-- the last part takes all that is left
part_left : (codes : List ℕ) (j : ℕ) → length codes ≤ 64 * j + 64 → drop (64 * j) codes ≡ part codes (64 * j) 64
unfolding part
part_left codes j h = sym (take_all 64 (drop (64 * j) codes) (simp length-drop (omega arith)))

-- the open segment's NOR and buffer hold the sections of its codes
pub sections_from_segment : (nor buffer codes : List ℕ)
    → ((j : ℕ) → (j + 1) * 64 ≤ length codes → nor_section nor j ≡ section_of (part codes (64 * j) 64))
    → buffer ≡ section_of (drop (64 * (length codes / 64)) codes)
    → sections_from nor buffer (length codes) ≡ segment_sections codes
sections_from_segment nor buffer codes h b =
    let n = length codes in
    let l = length_sections_from nor buffer n in
    let m = length_segment_sections codes in
    ext_get_or [] (sections_from nor buffer n) (segment_sections codes) (l ∙ sym m) (λ j k.
    let q : j < section_count n = omega arith in
    go j q (dec_le ((j + 1) * 64) n) ∙ sym (segment_section codes j q))
  where
    go : (j : ℕ) → j < section_count (length codes) → Dec ((j + 1) * 64 ≤ length codes)
        → get_or (sections_from nor buffer (length codes)) j [] ≡ section_of (part codes (64 * j) 64)
    go j q (yes a) = whole_section nor buffer (length codes) j a ∙ h j a
    go j q (no f) =
        let e : length codes / 64 ≡ j = omega arith in
        last_section nor buffer (length codes) j (omega arith) q ∙ b
        ∙ ap section_of (ap (λ (i : ℕ). drop (64 * i) codes) e ∙ part_left codes j (omega arith))
