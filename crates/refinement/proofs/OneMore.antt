-- One lift more: its record in the page buffer and the lift pages, its load in the sections and NOR. Assumes nothing.
use mathlib.Core.Path.{◌≡◌, refl, sym, ap, ◌∙◌}
use mathlib.Core.List.{List, [], ◌∷◌, ◌++◌, map, append_assoc, append-nil}
use Prim.Native.Nat.{ℕ, zero, suc, ◌+◌, ◌-◌, ◌*◌, ◌/◌, ◌%◌, ◌≤◌, ◌<◌}
use native.Mathlib.Omega.{arith}
use lib.ListN.{length, drop, length-append, length-drop, drop_of_length-le}
use lib.Seq.{drop-append-le}
use Rattle.codec.specs.Area.{part, splice, repeated}
use Rattle.codec.proofs.Areas.{part_append_left, splice_right}
use Rattle.flash.specs.Chip.{erased_page}
use Rattle.lift.specs.Limits.{stored}
use Rattle.lift.proofs.Records.{length_record}
use Rattle.bloom.specs.Bloom.{section_of, noted, noted_all, empty_section}
use Rattle.bloom.specs.Pages.{each}
use Rattle.bloom.proofs.Each.{each_same}
use Rattle.bloom.proofs.Section.{section_of_snoc}
use Rattle.header.proofs.Fields.{front_put}
use Rattle.search.specs.Answers.{row_bytes}
use Rattle.search.proofs.Rows.{rows_append}
use Rattle.paper_log.specs.Log.{Lift, row_of}
use Rattle.refinement.specs.Inner.Segments.{records_of, lift_area, lift_page, page_buffer, bloom_buffer, whole_sections}
use Rattle.refinement.proofs.Good.{GoodLift, GoodLifts}
use Rattle.refinement.proofs.Lengths.{length_records}
use Rattle.refinement.proofs.ClosePage.{to_end, past_end}

pub map_snoc : {A B : Type 0} (f : A → B) (l : List A) (a : A) → map f (l ++ (a ∷ [])) ≡ map f l ++ (f a ∷ [])
map_snoc f [] a = refl
map_snoc {B = B} f (x ∷ l) a = ap {B = List B} (λ t. f x ∷ t) (map_snoc f l a)

pub good_snoc : (ls : List Lift) (l : Lift) → GoodLifts ls → GoodLift l → GoodLifts (ls ++ (l ∷ []))
good_snoc [] l g h = (h, tt)
good_snoc (m ∷ ls) l g h = (g.0, good_snoc ls l g.1 h)

pub length_snoc : {A : Type 0} (l : List A) (a : A) → length (l ++ (a ∷ [])) ≡ length l + 1
length_snoc l a = length-append l (a ∷ [])

-- where the page that is not full begins
abbrev pub page_base : List Lift → ℕ
page_base ls = length ls / 16 * 512

-- what stands from `at` on, filled with 255 to a page
abbrev pub filled : ℕ → List ℕ → List ℕ
filled at r = drop at r ++ repeated (512 - length (drop at r)) 255

-- bytes put behind what stands
behind : (d row : List ℕ) → length d + length row ≤ 512 → splice (d ++ repeated (512 - length d) 255) (length d) row ≡ (d ++ row) ++ repeated (512 - length (d ++ row)) 255
behind d row h =
    let z : length d + 0 ≡ length d = omega arith in
    let n = length-append d row in
    let m : 512 - length d - length row ≡ 512 - length (d ++ row) = omega arith in
    splice_right d (repeated (512 - length d) 255) 0 (length d) row z
    ∙ ap (λ (t : List ℕ). d ++ t) (front_put (512 - length d) 255 row (omega arith) ∙ ap (λ (k : ℕ). row ++ repeated k 255) m)
    ∙ sym (append_assoc d row (repeated (512 - length (d ++ row)) 255))

module _ (ls : List Lift) (l : Lift) (g : GoodLifts ls) (gl : GoodLift l) where
  records_snoc : records_of (ls ++ (l ∷ [])) ≡ records_of ls ++ row_of l
  unfolding records_of row_bytes
  records_snoc =
      ap row_bytes (map_snoc row_of ls l) ∙ rows_append (map row_of ls) (row_of l ∷ []) ∙ ap (λ (t : List ℕ). records_of ls ++ t) (append-nil (row_of l))

  long : length (row_of l) ≡ 32
  long = length_record l.time (stored l.load) l.note gl.note

  all_good : GoodLifts (ls ++ (l ∷ []))
  all_good = good_snoc ls l g gl

  drop_snoc : drop (page_base ls) (records_of (ls ++ (l ∷ []))) ≡ drop (page_base ls) (records_of ls) ++ row_of l
  drop_snoc =
      let n = length_records ls g in
      ap (drop (length ls / 16 * 512)) records_snoc ∙ drop-append-le (length ls / 16 * 512) (records_of ls) (row_of l) (omega arith)

  -- the page buffer with the lift's record
  pub buffer_with : splice (page_buffer ls) (length ls % 16 * 32) (row_of l) ≡ filled (page_base ls) (records_of (ls ++ (l ∷ [])))
  unfolding page_buffer
  buffer_with =
      let n = length_records ls g in
      let d = length-drop (length ls / 16 * 512) (records_of ls) in
      let e : length ls % 16 * 32 ≡ length (drop (length ls / 16 * 512) (records_of ls)) = omega arith in
      rw (e, behind (drop (length ls / 16 * 512) (records_of ls)) (row_of l) (omega (arith, long))) (ap (λ (t : List ℕ). t ++ repeated (512 - length t) 255) (sym drop_snoc))

  -- the lift is not the last of its page
  pub buffer_more : (length ls % 16 ≡ 15 → ⊥) → filled (page_base ls) (records_of (ls ++ (l ∷ []))) ≡ page_buffer (ls ++ (l ∷ []))
  unfolding page_buffer
  buffer_more h =
      let n = length_snoc ls l in
      let e : length (ls ++ (l ∷ [])) / 16 ≡ length ls / 16 = omega (arith, h) in
      rw e

  -- it is: the page goes out, and the buffer is empty
  pub page_full : length ls % 16 ≡ 15 → length ls < 320 → filled (page_base ls) (records_of (ls ++ (l ∷ []))) ≡ lift_page (ls ++ (l ∷ [])) (length ls / 16)
  unfolding lift_area
  page_full h k =
      let n = length_snoc ls l in
      let m = length_records (ls ++ (l ∷ [])) all_good in
      sym (past_end (records_of (ls ++ (l ∷ []))) (length ls / 16 * 512) 512 255 (10240 - length (records_of (ls ++ (l ∷ [])))) (omega arith) (omega arith) (omega arith))

  pub buffer_empty : length ls % 16 ≡ 15 → page_buffer (ls ++ (l ∷ [])) ≡ erased_page
  unfolding page_buffer
  buffer_empty h =
      let n = length_snoc ls l in
      let m = length_records (ls ++ (l ∷ [])) all_good in
      let k : length (records_of (ls ++ (l ∷ []))) ≤ length (ls ++ (l ∷ [])) / 16 * 512 = omega arith in
      rw (drop_of_length-le (records_of (ls ++ (l ∷ []))) {i = length (ls ++ (l ∷ [])) / 16 * 512} k)

  -- full pages stay
  pub page_kept : (p : ℕ) → p < length ls / 16 → lift_page (ls ++ (l ∷ [])) p ≡ lift_page ls p
  unfolding lift_area
  page_kept p h =
      let n = length_records ls g in
      let m = length-append (records_of ls) (row_of l) in
      ap (λ (t : List ℕ). part (t ++ repeated (10240 - length t) 255) (p * 512) 512) records_snoc
      ∙ part_append_left (records_of ls ++ row_of l) _ (p * 512) 512 (omega arith) ∙ part_append_left (records_of ls) (row_of l) (p * 512) 512 (omega arith)
      ∙ sym (part_append_left (records_of ls) _ (p * 512) 512 (omega arith))

-- ---- sections

each_snoc : {A : Type 0} (f : ℕ → A) (from n : ℕ) → each f from (suc n) ≡ each f from n ++ (f (from + n) ∷ [])
unfolding each
each_snoc f from zero = let e : from + 0 ≡ from = omega arith in rw e
each_snoc {A = A} f from (suc n) =
    let e : suc from + n ≡ from + suc n = omega arith in
    ap {B = List A} (λ t. f from ∷ t) (each_snoc f (suc from) n ∙ ap {B = List A} (λ k. each f (suc from) n ++ (f k ∷ [])) e)

module _ (cs : List ℕ) (c : ℕ) where
  abbrev section_at : List ℕ → ℕ → List ℕ
  section_at cs j = section_of (part cs (64 * j) 64)

  -- the whole sections of the loads so far
  sections_kept : each (section_at (cs ++ (c ∷ []))) 0 (length cs / 64) ≡ each (section_at cs) 0 (length cs / 64)
  sections_kept = each_same _ _ 0 (length cs / 64) (λ i a b. ap section_of (part_append_left cs (c ∷ []) (64 * i) 64 (omega arith)))

  -- the Bloom buffer with the lift's bits
  pub bits_with : noted (bloom_buffer cs) c ≡ section_of (drop (length cs / 64 * 64) cs ++ (c ∷ []))
  unfolding bloom_buffer
  bits_with = sym (section_of_snoc (drop (length cs / 64 * 64) cs) c)

  drop_codes : drop (length cs / 64 * 64) (cs ++ (c ∷ [])) ≡ drop (length cs / 64 * 64) cs ++ (c ∷ [])
  drop_codes = drop-append-le (length cs / 64 * 64) cs (c ∷ []) (omega arith)

  -- the lift is not the last of its section
  pub bits_more : (length cs % 64 ≡ 63 → ⊥) → noted (bloom_buffer cs) c ≡ bloom_buffer (cs ++ (c ∷ []))
  unfolding bloom_buffer
  bits_more h =
      let n = length_snoc cs c in
      let e : length (cs ++ (c ∷ [])) / 64 ≡ length cs / 64 = omega (arith, h) in
      bits_with ∙ ap section_of (sym drop_codes) ∙ again e
    where
      again : length (cs ++ (c ∷ [])) / 64 ≡ length cs / 64 → section_of (drop (length cs / 64 * 64) (cs ++ (c ∷ []))) ≡ bloom_buffer (cs ++ (c ∷ []))
      again e = rw e

  pub sections_more : (length cs % 64 ≡ 63 → ⊥) → whole_sections (cs ++ (c ∷ [])) ≡ whole_sections cs
  unfolding whole_sections
  sections_more h =
      let n = length_snoc cs c in
      let e : length (cs ++ (c ∷ [])) / 64 ≡ length cs / 64 = omega (arith, h) in
      rw (e, sections_kept)

  -- it is: the section goes out, and the buffer is empty
  pub sections_full : length cs % 64 ≡ 63 → whole_sections (cs ++ (c ∷ [])) ≡ whole_sections cs ++ noted (bloom_buffer cs) c
  unfolding whole_sections row_bytes
  sections_full h =
      let n = length_snoc cs c in
      let e : length (cs ++ (c ∷ [])) / 64 ≡ suc (length cs / 64) = omega arith in
      rw (e, each_snoc (section_at (cs ++ (c ∷ []))) 0 (length cs / 64), sections_kept)
      (rows_append (each (section_at cs) 0 (length cs / 64)) (section_at (cs ++ (c ∷ [])) (0 + length cs / 64) ∷ [])
      ∙ ap (λ (t : List ℕ). row_bytes (each (section_at cs) 0 (length cs / 64)) ++ t) (append-nil (section_at (cs ++ (c ∷ [])) (0 + length cs / 64)) ∙ last))
    where
      last : section_at (cs ++ (c ∷ [])) (0 + length cs / 64) ≡ noted (bloom_buffer cs) c
      last =
          let n = length_snoc cs c in
          let k : 64 * (0 + length cs / 64) ≡ length cs / 64 * 64 = omega arith in
          let d = length-drop (length cs / 64 * 64) (cs ++ (c ∷ [])) in
          let w : 64 ≡ length (drop (length cs / 64 * 64) (cs ++ (c ∷ []))) = omega arith in
          rw k (ap (λ (m : ℕ). section_of (part (cs ++ (c ∷ [])) (length cs / 64 * 64) m)) w
          ∙ ap section_of (to_end (cs ++ (c ∷ [])) (length cs / 64 * 64) ∙ drop_codes) ∙ sym bits_with)

  pub bits_empty : length cs % 64 ≡ 63 → bloom_buffer (cs ++ (c ∷ [])) ≡ empty_section
  unfolding bloom_buffer section_of noted_all
  bits_empty h =
      let n = length_snoc cs c in
      let k : length (cs ++ (c ∷ [])) ≤ length (cs ++ (c ∷ [])) / 64 * 64 = omega arith in
      rw (drop_of_length-le (cs ++ (c ∷ [])) {i = length (cs ++ (c ∷ [])) / 64 * 64} k)
