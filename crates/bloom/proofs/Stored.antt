-- Where a section's bytes stand: in NOR and the buffer while the segment is open, in the two Bloom pages once it is closed.
use mathlib.Core.Path.{◌≡◌, sym, ap, ◌∙◌}
use mathlib.Core.Bool.{cond}
use mathlib.Core.List.{List, [], ◌∷◌, ◌++◌}
use Prim.Native.Nat.{ℕ, ◌+◌, ◌-◌, ◌*◌, ◌/◌, ◌%◌, ◌≤◌, ◌<◌}
use native.Mathlib.Decide.{ℕ_discrete, dec_le}
use native.Mathlib.Omega.{arith}
use lib.Dec.{eqb}
use lib.ListN.{length, get_or, length-append, length-take, get_or-append}
use lib.Seq.{get_or-append-add, get_or-append_seam, get_or-take}
use borrow.Author.Tests.{eq-eqb, ne_eqb}
use Rattle.codec.specs.Area.{part}
use Rattle.codec.proofs.Areas.{length_part, get_d_part, part_part}
use Rattle.bloom.specs.Pages.{each, section_count, nor_section, sections_from, section_in}
use Rattle.bloom.proofs.Each.{length_each, get_or_each}

-- ---- the open segment

module _ (nor buffer : List ℕ) (count : ℕ) where
  pub length_sections_from : length (sections_from nor buffer count) ≡ section_count count
  unfolding sections_from
  length_sections_from =
      length-append (each (nor_section nor) 0 (count / 64)) _
      ∙ ap (λ (n : ℕ). n + length (cond (eqb (count % 64) 0) [] (buffer ∷ []))) (length_each (nor_section nor) 0 (count / 64))
      ∙ go (ℕ_discrete (count % 64) 0)
    where
      go : Dec (count % 64 ≡ 0) → count / 64 + length (cond (eqb (count % 64) 0) [] (buffer ∷ [])) ≡ (count + 63) / 64
      go (yes e) = rw (eq-eqb _ _ e) (omega arith)
      go (no f) = rw (ne_eqb _ _ f) (omega arith)

  -- a section of 64 lifts is in NOR
  pub whole_section : (j : ℕ) → (j + 1) * 64 ≤ count → get_or (sections_from nor buffer count) j [] ≡ nor_section nor j
  unfolding sections_from
  whole_section j h =
      let e : 0 + j ≡ j = omega arith in
      get_or-append (each (nor_section nor) 0 (count / 64)) _ [] j (omega (arith, length_each (nor_section nor) 0 (count / 64)))
      ∙ get_or_each (nor_section nor) 0 (count / 64) j [] (omega arith) ∙ ap (nor_section nor) e

  -- a part-filled one in the buffer
  pub last_section : (j : ℕ) → count < (j + 1) * 64 → j < section_count count → get_or (sections_from nor buffer count) j [] ≡ buffer
  unfolding sections_from
  last_section j h k =
      let l = length_each (nor_section nor) 0 (count / 64) in
      let e : j ≡ length (each (nor_section nor) 0 (count / 64)) = omega arith in
      rw (ne_eqb (count % 64) 0 (omega arith), e) (get_or-append_seam (each (nor_section nor) 0 (count / 64)) buffer [] [])

module _ (nor buffer : List ℕ) (count j : ℕ) where
  -- each has 128 bytes
  pub length_section : length nor ≡ 6144 → length buffer ≡ 128 → count ≤ 320 → j < section_count count
      → length (get_or (sections_from nor buffer count) j []) ≡ 128
  length_section n b m h = go (dec_le ((j + 1) * 64) count)
    where
      go : Dec ((j + 1) * 64 ≤ count) → length (get_or (sections_from nor buffer count) j []) ≡ 128
      go (yes l) = ap length (whole_section nor buffer count j l) ∙ length_part nor (4608 + 128 * j) 128 (omega arith)
      go (no f) = ap length (last_section nor buffer count j (omega arith) h) ∙ b

  -- a part of it, where it stands
  pub part_in_nor : length nor ≡ 6144 → count ≤ 320 → (from n : ℕ) → (j + 1) * 64 ≤ count → from + n ≤ 128
      → part nor (4608 + j * 128 + from) n ≡ part (get_or (sections_from nor buffer count) j []) from n
  part_in_nor size most from n h l =
      let e : 4608 + j * 128 + from ≡ 4608 + 128 * j + from = omega arith in
      ap (λ (a : ℕ). part nor a n) e ∙ sym (part_part nor (4608 + 128 * j) 128 from n (omega arith) l)
      ∙ ap (λ (s : List ℕ). part s from n) (sym (whole_section nor buffer count j h))

  pub part_in_buffer : (from n : ℕ) → count < (j + 1) * 64 → j < section_count count
      → part buffer from n ≡ part (get_or (sections_from nor buffer count) j []) from n
  part_in_buffer from n h k = ap (λ (s : List ℕ). part s from n) (sym (last_section nor buffer count j h k))

-- ---- the two Bloom pages

module _ (pages : List ℕ) (L j : ℕ) (p : 1024 ≤ length pages) (r : j * L + L ≤ 512) (h : 128 ≤ 2 * L) where
  front : length (part pages (j * L) L) ≡ L
  front = length_part pages (j * L) L (omega arith)

  back : length (part pages (512 + j * L) L) ≡ L
  back = length_part pages (512 + j * L) L (omega arith)

  pub length_section_in : length (section_in pages L j) ≡ 128
  unfolding section_in
  length_section_in = simp (length-take, length-append) (omega (arith, front, back))

  -- a byte in the first page's fragment, and in the second's
  pub section_front : (n : ℕ) → n < 128 → n < L → get_or (section_in pages L j) n 0 ≡ get_or pages (j * L + n) 0
  unfolding section_in
  section_front n k l =
      get_or-take 128 (part pages (j * L) L ++ part pages (512 + j * L) L) n 0 k
      ∙ get_or-append (part pages (j * L) L) (part pages (512 + j * L) L) 0 n (omega (arith, front))
      ∙ get_d_part pages (j * L) L n l

  pub section_back : (n : ℕ) → n < 128 → L ≤ n → get_or (section_in pages L j) n 0 ≡ get_or pages (512 + j * L + (n - L)) 0
  unfolding section_in
  section_back n k l =
      let e : n ≡ length (part pages (j * L) L) + (n - L) = omega (arith, front) in
      get_or-take 128 (part pages (j * L) L ++ part pages (512 + j * L) L) n 0 k
      ∙ ap (λ (m : ℕ). get_or (part pages (j * L) L ++ part pages (512 + j * L) L) m 0) e
      ∙ get_or-append-add (part pages (j * L) L) (part pages (512 + j * L) L) (n - L) 0
      ∙ get_d_part pages (512 + j * L) L (n - L) (omega arith)
