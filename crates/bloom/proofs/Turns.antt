-- What `bloom_page` and `in_some` go by: the code's numbers of sections and fragment bytes are the definitions'.
use mathlib.Core.Path.{◌≡◌, sym, ap, ◌∙◌}
use mathlib.Core.Bool.{Bool, true, false, ◌||◌}
use mathlib.Core.List.{List, []}
use Prim.Native.Nat.{ℕ, suc, ◌+◌, ◌-◌, ◌*◌, ◌/◌, ◌≤◌, ◌<◌, min}
use native.Mathlib.Nat.{mul-le-mul_right, suc-mul}
use native.Mathlib.Omega.{arith}
use lib.ListN.{length, get_or, get_or-eq_default}
use Rattle.bloom.specs.Bloom.{in_byte, is_set, some_set}
use Rattle.bloom.specs.Pages.{each, section_count, fragment_length, sections_from, bloom_page, section_in, sections_in}
use Rattle.codec.specs.Area.{part, splice}
use Rattle.codec.proofs.Areas.{length_part, get_d_part}
use Rattle.bloom.proofs.Filling.{Filled, filled_more}
use Rattle.bloom.proofs.Fragments.{fragment_length_lem, fragment_room, page_at, page_past, length_page}
use Rattle.bloom.proofs.Stored.{length_sections_from, length_section}

-- ---- a page of the open segment

pub length_open_page_lem : (nor buffer : List ℕ) (count i : ℕ) → 1 ≤ count → count ≤ 320
    → length (bloom_page (sections_from nor buffer count) i) ≡ 512
length_open_page_lem nor buffer count i some most =
    let e = length_sections_from nor buffer count in
    length_page (sections_from nor buffer count) i (fragment_length_lem _ (omega arith) (omega arith))

-- where the fragments of section j come from and go to
pub record Fragment (i l j : ℕ) : Type 0 where
  pub start : i * l ≤ 128
  pub long : l ≤ 128
  pub room : j * l + l ≤ 512

pub fragment_at : (count i s l j : ℕ) → 1 ≤ count → count ≤ 320 → s ≡ section_count count → l ≡ fragment_length s → i < 2 → j < s
    → Fragment i l j
fragment_at count i s l j some most a b h k =
    let f = fragment_length_lem s (omega arith) (omega arith) in
    let m : i ≤ 1 = omega arith in
    let n : l ≤ 128 = omega (arith, f.most) in
    record { start = omega (arith, mul-le-mul_right l m); long = n; room = rw b (fragment_room s j f k) }

module _ (nor buffer : List ℕ) (count i s l : ℕ) (some : 1 ≤ count) (most : count ≤ 320) (a : s ≡ section_count count)
    (b : l ≡ fragment_length s) where
  abbrev sections : List (List ℕ)
  sections = sections_from nor buffer count

  abbrev page : List ℕ
  page = bloom_page sections i

  length_is : l ≡ fragment_length (length sections)
  length_is = b ∙ ap fragment_length (a ∙ sym (length_sections_from nor buffer count))

  module _ (nor_size : length nor ≡ 6144) (buffer_size : length buffer ≡ 128) (j n : ℕ) (j_in : j < s)
      (n_is : n ≡ min 128 (i * l + l) - i * l) where
    abbrev section : List ℕ
    section = get_or sections j []

    section_size : length section ≡ 128
    section_size = length_section nor buffer count j nor_size buffer_size most (omega arith)

    part_size : i * l ≤ 128 → length (part section (i * l) n) ≡ n
    part_size h = length_part section (i * l) n (omega (arith, section_size))

    byte_is : (m : ℕ) → m < l → get_or page (j * l + m) 0 ≡ get_or section (i * l + m) 0
    byte_is m h = rw length_is (page_at sections i j m (omega (arith, length_is)))

    part_is : (m : ℕ) → m < n → get_or (part section (i * l) n) m 0 ≡ get_or page (j * l + m) 0
    part_is m h = get_d_part section (i * l) n m h ∙ sym (byte_is m (omega arith))

    part_past : i * l ≤ 128 → (m : ℕ) → n ≤ m → m < l → get_or page (j * l + m) 0 ≡ 0
    part_past h m u v = byte_is m v ∙ get_or-eq_default section 0 {n = i * l + m} (omega (arith, section_size))

    -- one turn of the loop: the fragment of section j goes behind those before it
    pub filled_next : i * l ≤ 128 → j * l + l ≤ 512 → (d : List ℕ) → Filled page d (j * l)
        → Filled page (splice d (j * l) (part section (i * l) n)) ((j + 1) * l)
    filled_next h room d f =
        let wide = part_size h in
        let whole = length_open_page_lem nor buffer count i some most in
        let next : (j + 1) * l ≡ j * l + l = omega (arith, suc-mul j l) in
        rw next
        (filled_more page d (j * l) l (part section (i * l) n) f (omega (arith, whole)) (omega (arith, wide, n_is))
        (λ m k. part_is m (omega (arith, wide))) (λ m k. part_past h m (omega (arith, wide))))

  pub past_all : (k : ℕ) → s * l ≤ k → get_or page k 0 ≡ 0
  past_all k h = page_past sections i k (rw (← length_is, length_sections_from nor buffer count, ← a) h)

-- ---- the turns of `in_some`

pub fragment_fits : (s l j : ℕ) → 1 ≤ s → s ≤ 5 → l ≡ fragment_length s → j < s → (j * l + l ≤ 512) × (128 ≤ 2 * l)
fragment_fits s l j a b e h = let f = fragment_length_lem s a b in rw e (fragment_room s j f h, f.half)

-- a byte of section j, and its bit
pub bit_there : (s : List ℕ) (b x : ℕ) (t v : Bool) → x ≡ get_or s (b / 8) 0 → t ≡ in_byte x b → t ≡ v → is_set s b ≡ v
bit_there s b x t v e f g = ap (λ (y : ℕ). in_byte y b) (sym e) ∙ sym f ∙ g

pub some_start : (pages : List ℕ) (s l b : ℕ) → l ≡ fragment_length s
    → some_set (each (section_in pages l) 0 (s - 0)) b ≡ some_set (sections_in pages s) b
unfolding sections_in
some_start pages s l b e = let n : s - 0 ≡ s = omega arith in rw (e, n)

module _ (f : ℕ → List ℕ) (b j s : ℕ) where
  first_left : j < s → some_set (each f j (s - j)) b ≡ (is_set (f j) b || some_set (each f (j + 1) (s - (j + 1))) b)
  unfolding each some_set
  first_left h =
      let e : s - j ≡ suc (s - (j + 1)) = omega arith in
      let n : suc j ≡ j + 1 = omega arith in
      rw (e, n)

  pub some_found : j < s → is_set (f j) b ≡ true → true ≡ some_set (each f j (s - j)) b
  some_found h t = sym (first_left h ∙ rw t)

  pub some_next : j < s → is_set (f j) b ≡ false → some_set (each f (j + 1) (s - (j + 1))) b ≡ some_set (each f j (s - j)) b
  some_next h t = sym (first_left h ∙ rw t)

  pub some_none : s ≤ j → false ≡ some_set (each f j (s - j)) b
  unfolding each some_set
  some_none h = let e : s - j ≡ 0 = omega arith in rw e
