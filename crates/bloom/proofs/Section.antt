-- A section's bits: a bit that was set tests true and the others stay, so a code that was noted is never missed.
use mathlib.Core.Path.{◌≡◌, refl, ap, ◌∙◌}
use mathlib.Core.Bool.{Bool, true, false, ◌&&◌, ◌||◌}
use mathlib.Core.List.{List, [], ◌∷◌, ◌++◌}
use Prim.Native.Nat.{ℕ, zero, suc, ◌+◌, ◌-◌, ◌/◌, ◌%◌, ◌^◌, ◌<◌}
use native.Mathlib.Decide.{ℕ_discrete, dec_lt}
use native.Mathlib.Omega.{arith}
use lib.Bits.{bit_or, or_lt}
use lib.Dec.{eqb}
use lib.ListN.{length, get_or, set, length-set, get_or-eq_default}
use lib.Pow.{pow-add, pow-lt, shl-shr}
use lib.Seq.{get_or-set_same, get_or-set_other}
use borrow.Author.Tests.{eqb-true, eq-eqb, ne_eqb}
use Rattle.codec.specs.Area.{repeated}
use Rattle.codec.proofs.Areas.{length_repeated, get_or_repeated}
use Rattle.codec.proofs.Truth.{or_second}
use Rattle.bitset.specs.Set.{elem}
use Rattle.bitset.specs.Inner.Words.{bit}
use Rattle.bitset.proofs.Digits.{or_cell_same, or_cell_other}
use Rattle.bloom.specs.Bloom.{bloom_bit, mask, is_set, set_in, noted, noted_all, empty_section, section_of}
use Rattle.bloom.specs.Bloom.{at_bits, some_set, may_hold}
use Rattle.bloom.specs.Inner.Holds.{holds}

pub bit_below : (which u : ℕ) → bloom_bit which u < 1024
unfolding bloom_bit
bit_below which u = omega arith

-- ---- one bit

-- the mask of bit b is a power, so that bit b is a binary digit of its byte
pub mask_power : (b : ℕ) → mask b ≡ 2 ^ (7 - b % 8)
mask_power b = go (b % 8) (omega arith)
  where
    go : (k : ℕ) → k < 8 → 128 / 2 ^ k ≡ 2 ^ (7 - k)
    go k h =
        let e : 7 ≡ 7 - k + k = omega arith in
        ap (λ (n : ℕ). 2 ^ n / 2 ^ k) e ∙ ap (λ (n : ℕ). n / 2 ^ k) (pow-add 2 (7 - k) k) ∙ shl-shr (2 ^ (7 - k)) k

pub is_set_lem : (s : List ℕ) (b : ℕ) → is_set s b ≡ eqb (bit (get_or s (b / 8) 0) (7 - b % 8)) 1
is_set_lem s b = ap (λ (m : ℕ). eqb (get_or s (b / 8) 0 / m % 2) 1) (mask_power b)

pub set_bits : (s : List ℕ) (b d : ℕ) → b / 8 < length s → is_set (set_in s b) d ≡ (eqb d b || is_set s d)
set_bits s b d l = is_set_lem (set_in s b) d ∙ rw (mask_power b, is_set_lem s d) (go (ℕ_discrete d b))
  where
    go : Dec (d ≡ b)
        → eqb (bit (get_or (set s (b / 8) (bit_or (get_or s (b / 8) 0) (2 ^ (7 - b % 8)))) (d / 8) 0) (7 - d % 8)) 1
        ≡ (eqb d b || eqb (bit (get_or s (d / 8) 0) (7 - d % 8)) 1)
    go (yes e) = rw (e, eq-eqb b b refl, or_cell_same s (b / 8) (7 - b % 8) l)
    go (no f) = rw (ne_eqb d b f, or_cell_other s (b / 8) (7 - b % 8) (d / 8) (7 - d % 8) l (λ e. omega arith))

-- ---- the three bits of a code

-- 128 bytes
abbrev pub Section : List ℕ → Type 0
Section s = length s ≡ 128

pub set_section : (s : List ℕ) (b : ℕ) → Section s → Section (set_in s b)
set_section s b z = length-set s (b / 8) _ ∙ z

pub length_noted : (s : List ℕ) (code : ℕ) → length (noted s code) ≡ length s
unfolding noted
length_noted s code = simp length-set

module _ (s : List ℕ) (code : ℕ) (z : Section s) where
  noted_bits : (d : ℕ) → is_set (noted s code) d
      ≡ (eqb d (bloom_bit 2 (code - 1)) || (eqb d (bloom_bit 1 (code - 1)) || (eqb d (bloom_bit 0 (code - 1)) || is_set s d)))
  unfolding noted
  noted_bits d =
      let u = code - 1 in
      let s1 = set_in s (bloom_bit 0 u) in
      let z1 : Section s1 = set_section s (bloom_bit 0 u) z in
      let s2 = set_in s1 (bloom_bit 1 u) in
      let z2 : Section s2 = set_section s1 (bloom_bit 1 u) z1 in
      set_bits s2 (bloom_bit 2 u) d (omega (arith, bit_below 2 u))
      ∙ ap (λ (b : Bool). eqb d (bloom_bit 2 u) || b) (set_bits s1 (bloom_bit 1 u) d (omega (arith, bit_below 1 u)))
      ∙ ap (λ (b : Bool). eqb d (bloom_bit 2 u) || (eqb d (bloom_bit 1 u) || b))
      (set_bits s (bloom_bit 0 u) d (omega (arith, bit_below 0 u)))

-- a bit that is set stays set
pub noted_keeps : (s : List ℕ) (code d : ℕ) → Section s → is_set s d ≡ true → is_set (noted s code) d ≡ true
noted_keeps s code d z e =
    noted_bits s code z d
    ∙ kept (eqb d (bloom_bit 2 (code - 1))) (eqb d (bloom_bit 1 (code - 1))) (eqb d (bloom_bit 0 (code - 1)))
  where
    kept : (a b c : Bool) → (a || (b || (c || is_set s d))) ≡ true
    kept a b c = or_second a (b || (c || is_set s d)) (or_second b (c || is_set s d) (or_second c (is_set s d) e))

all_three : (a b c : Bool) → a ≡ true → b ≡ true → c ≡ true → (a && (b && c)) ≡ true
all_three true true c p q r = r
all_three true false c p q r = q
all_three false b c p q r = p

each_of_three : (a b c : Bool) → (a && (b && c)) ≡ true → (a ≡ true) × (b ≡ true) × (c ≡ true)
each_of_three true true c e = (refl, refl, e)
each_of_three true false c e = (refl, e, cc)
each_of_three false b c e = (e, cc, cc)

-- a test that passes where another does passes at the bits where that one does
pub at_bits_lem : (f g : ℕ → Bool) (code : ℕ) → ((d : ℕ) → f d ≡ true → g d ≡ true) → at_bits f code ≡ true → at_bits g code ≡ true
unfolding at_bits
at_bits_lem f g code h e =
    let b : ℕ → ℕ = λ k. bloom_bit k (code - 1) in
    let p = each_of_three (f (b 0)) (f (b 1)) (f (b 2)) e in
    all_three (g (b 0)) (g (b 1)) (g (b 2)) (h (b 0) p.0) (h (b 1) p.1) (h (b 2) p.2)

pub noted_holds : (s : List ℕ) (code : ℕ) → Section s → holds (noted s code) code ≡ true
unfolding at_bits
noted_holds s code z =
    all_three (is_set (noted s code) (b 0)) (is_set (noted s code) (b 1)) (is_set (noted s code) (b 2)) first second last
  where
    b : ℕ → ℕ
    b k = bloom_bit k (code - 1)

    first : is_set (noted s code) (b 0) ≡ true
    first =
        noted_bits s code z (b 0)
        ∙ rw (eq-eqb (b 0) (b 0) refl) (or_second (eqb (b 0) (b 2)) _ (or_second (eqb (b 0) (b 1)) true refl))

    second : is_set (noted s code) (b 1) ≡ true
    second = noted_bits s code z (b 1) ∙ rw (eq-eqb (b 1) (b 1) refl) (or_second (eqb (b 1) (b 2)) true refl)

    last : is_set (noted s code) (b 2) ≡ true
    last = noted_bits s code z (b 2) ∙ rw (eq-eqb (b 2) (b 2) refl)

-- a code that was noted stays noted
pub noted_holds_on : (s : List ℕ) (code other : ℕ) → Section s → holds s code ≡ true → holds (noted s other) code ≡ true
noted_holds_on s code other z e = at_bits_lem (is_set s) (is_set (noted s other)) code (λ d t. noted_keeps s other d z t) e

-- ---- a list of codes

pub all_section : (s codes : List ℕ) → Section s → Section (noted_all s codes)
unfolding noted_all
all_section s [] z = z
all_section s (c ∷ cs) z = all_section (noted s c) cs (length_noted s c ∙ z)

all_holds_on : (s codes : List ℕ) (code : ℕ) → Section s → holds s code ≡ true → holds (noted_all s codes) code ≡ true
unfolding noted_all
all_holds_on s [] code z e = e
all_holds_on s (c ∷ cs) code z e = all_holds_on (noted s c) cs code (length_noted s c ∙ z) (noted_holds_on s code c z e)

pub all_never_misses : (s codes : List ℕ) (code : ℕ) → Section s → elem code codes ≡ true → holds (noted_all s codes) code ≡ true
unfolding noted_all elem
all_never_misses s [] code z e = cc
all_never_misses s (c ∷ cs) code z e =
    go (eqb code c) refl e (all_never_misses (noted s c) cs code (length_noted s c ∙ z))
  where
    go : (b : Bool) → eqb code c ≡ b → (b || elem code cs) ≡ true
        → (elem code cs ≡ true → holds (noted_all (noted s c) cs) code ≡ true)
        → holds (noted_all (noted s c) cs) code ≡ true
    go true t e ih =
        let q : code ≡ c = eqb-true code c t in
        rw q (all_holds_on (noted s c) cs c (length_noted s c ∙ z) (noted_holds s c z))
    go false t e ih = ih e

pub empty_section_lem : Section empty_section
unfolding empty_section
empty_section_lem = length_repeated 128 0

pub length_section_of : (codes : List ℕ) → length (section_of codes) ≡ 128
unfolding section_of
length_section_of codes = all_section empty_section codes empty_section_lem

-- all three bits of a code are set in the section of a list that has it
pub bloom_never_misses : (codes : List ℕ) (code : ℕ) → elem code codes ≡ true → holds (section_of codes) code ≡ true
unfolding section_of
bloom_never_misses codes code e = all_never_misses empty_section codes code empty_section_lem e

-- one more lift in a section
pub noted_all_snoc : (s codes : List ℕ) (code : ℕ) → noted_all s (codes ++ code ∷ []) ≡ noted (noted_all s codes) code
unfolding noted_all
noted_all_snoc s [] code = refl
noted_all_snoc s (c ∷ cs) code = noted_all_snoc (noted s c) cs code

pub section_of_snoc : (codes : List ℕ) (code : ℕ) → section_of (codes ++ code ∷ []) ≡ noted (section_of codes) code
unfolding section_of
section_of_snoc codes code = noted_all_snoc empty_section codes code

-- ---- sections

some_at : (ss : List (List ℕ)) (j b : ℕ) → j < length ss → is_set (get_or ss j []) b ≡ true → some_set ss b ≡ true
unfolding some_set
some_at [] j b h e = absurd (omega arith)
some_at (s ∷ ss) zero b h e = rw e
some_at (s ∷ ss) (suc j) b h e = or_second (is_set s b) (some_set ss b) (some_at ss j b (omega arith) e)

-- a segment is not passed over where one of its sections has all three bits
pub may_hold_at : (ss : List (List ℕ)) (j code : ℕ) → j < length ss → holds (get_or ss j []) code ≡ true → may_hold ss code ≡ true
unfolding may_hold
may_hold_at ss j code h e = at_bits_lem (is_set (get_or ss j [])) (some_set ss) code (λ d t. some_at ss j d h t) e

-- ---- bytes stay bytes

-- each is a byte
abbrev pub Bytes : List ℕ → Type 0
Bytes s = (i : ℕ) → get_or s i 0 < 256

pub zeros : (n k : ℕ) → get_or (repeated n 0) k 0 ≡ 0
zeros n k = go (dec_lt k n)
  where
    go : Dec (k < n) → get_or (repeated n 0) k 0 ≡ 0
    go (yes h) = get_or_repeated n 0 k h
    go (no f) = get_or-eq_default (repeated n 0) 0 (omega (arith, length_repeated n 0))

set_bytes : (s : List ℕ) (b : ℕ) → b / 8 < length s → Bytes s → Bytes (set_in s b)
set_bytes s b l h i = go (ℕ_discrete i (b / 8))
  where
    v : ℕ
    v = bit_or (get_or s (b / 8) 0) (mask b)

    small : mask b < 2 ^ 8
    small = let k : 7 - b % 8 < 8 = omega arith in rw (mask_power b) (pow-lt k)

    go : Dec (i ≡ b / 8) → get_or (set s (b / 8) v) i 0 < 256
    go (yes e) = rw (e, get_or-set_same s (b / 8) v 0 l) (or_lt 8 (get_or s (b / 8) 0) (mask b) (h (b / 8)) small)
    go (no f) = rw (get_or-set_other s (b / 8) i v 0 f) (h i)

pub noted_bytes : (s : List ℕ) (code : ℕ) → Section s → Bytes s → Bytes (noted s code)
unfolding noted
noted_bytes s code z h = go (code - 1)
  where
    go : (u : ℕ) → Bytes (set_in (set_in (set_in s (bloom_bit 0 u)) (bloom_bit 1 u)) (bloom_bit 2 u))
    go u =
        let s1 = set_in s (bloom_bit 0 u) in
        let z1 : Section s1 = set_section s (bloom_bit 0 u) z in
        let s2 = set_in s1 (bloom_bit 1 u) in
        let z2 : Section s2 = set_section s1 (bloom_bit 1 u) z1 in
        set_bytes s2 (bloom_bit 2 u) (omega (arith, bit_below 2 u))
        (set_bytes s1 (bloom_bit 1 u) (omega (arith, bit_below 1 u)) (set_bytes s (bloom_bit 0 u) (omega (arith, bit_below 0 u)) h))

all_bytes : (s codes : List ℕ) → Section s → Bytes s → Bytes (noted_all s codes)
unfolding noted_all
all_bytes s [] z h = h
all_bytes s (c ∷ cs) z h = all_bytes (noted s c) cs (length_noted s c ∙ z) (noted_bytes s c z h)

pub section_of_bytes : (codes : List ℕ) → Bytes (section_of codes)
unfolding section_of empty_section
section_of_bytes codes = all_bytes empty_section codes empty_section_lem (λ i. omega (arith, zeros 128 i))
