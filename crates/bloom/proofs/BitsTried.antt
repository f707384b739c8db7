-- The bits of a load tried in turn: up to which one, and on how many pages. Assumes nothing.
use mathlib.Core.Path.{◌≡◌, refl, sym, ap, ◌∙◌}
use mathlib.Core.Bool.{Bool, true, false, cond}
use mathlib.Core.List.{List, [], ◌∷◌, map}
use Prim.Native.Nat.{ℕ, ◌+◌, ◌-◌, ◌*◌, ◌/◌, ◌≤◌, ◌<◌}
use native.Mathlib.Decide.{ℕ_discrete, dec_lt}
use native.Mathlib.Nat.{div-eq_of_lt}
use native.Mathlib.Omega.{arith}
use lib.Arith.{digits_div}
use lib.ListN.{length, get_or}
use borrow.Author.Tests.{eq-eqb, ne_eqb}
use Rattle.bitset.specs.Set.{elem, distinct}
use Rattle.bloom.specs.Bloom.{bloom_bit, at_bits, some_set, may_hold}
use Rattle.bloom.specs.Pages.{fragment_length, section_in, sections_in}
use Rattle.bloom.specs.Tried.{bits_of, tried_of, bit_page, pages_tried}
use Rattle.bloom.proofs.Each.{length_each}
use Rattle.bloom.proofs.Section.{bit_below}
use Rattle.bloom.proofs.Fragments.{Length, fragment_length_lem}

-- ---- the page of a bit

pub page_first : (l b : ℕ) → b / 8 < l → bit_page l b ≡ 0
page_first l b h = div-eq_of_lt h

pub page_second : (l b : ℕ) → l ≤ b / 8 → b / 8 < 2 * l → bit_page l b ≡ 1
page_second l b h k =
    let e : b / 8 ≡ 1 * l + (b / 8 - l) = omega arith in
    ap (λ (n : ℕ). n / l) e ∙ digits_div 1 (omega arith)

-- ---- how many pages

pub one_page : (a : ℕ) → distinct (a ∷ []) ≡ 1
unfolding distinct elem
one_page a = refl

pub same_page : (a b : ℕ) → a ≡ b → distinct (a ∷ b ∷ []) ≡ 1
unfolding distinct elem
same_page a b e = rw (eq-eqb a b e)

pub two_pages : (a b : ℕ) → (a ≡ b → ⊥) → distinct (a ∷ b ∷ []) ≡ 2
unfolding distinct elem
two_pages a b f = rw (ne_eqb a b f)

-- a third bit on the page of the first two, and beside two pages
pub first_again : (a b c : ℕ) → a ≡ b → distinct (a ∷ b ∷ c ∷ []) ≡ distinct (b ∷ c ∷ [])
unfolding distinct elem
first_again a b c e = rw (eq-eqb a b e)

pub both_pages : (a b c : ℕ) → a < 2 → b < 2 → c < 2 → (a ≡ b → ⊥) → distinct (a ∷ b ∷ c ∷ []) ≡ 2
unfolding distinct elem
both_pages a b c h k l f = go (ℕ_discrete a c)
  where
    go : Dec (a ≡ c) → distinct (a ∷ b ∷ c ∷ []) ≡ 2
    go (yes e) = rw (ne_eqb a b f, eq-eqb a c e, ne_eqb b c (λ d. f (e ∙ sym d)))
    go (no g) = rw (ne_eqb a b f, ne_eqb a c g, eq-eqb b c (omega (arith, f, g)))

-- ---- the bits tried

module _ (pages : List ℕ) (s code : ℕ) where
  abbrev sections : List (List ℕ)
  sections = sections_in pages s

  abbrev set : ℕ → Bool
  set b = some_set sections b

  abbrev bit : ℕ → ℕ
  bit i = bloom_bit i (code - 1)

  abbrev page : ℕ → ℕ
  page i = bit_page (fragment_length s) (bit i)

  length_sections : length sections ≡ s
  unfolding sections_in
  length_sections = length_each (section_in pages (fragment_length s)) 0 s

  tried_pages : (bs : List ℕ) → tried_of set (bits_of code) ≡ bs
      → pages_tried sections code ≡ distinct (map (bit_page (fragment_length s)) bs)
  unfolding pages_tried
  tried_pages bs e = rw (length_sections, e)

  -- up to the first bit, the second, the third
  pub record Trial (held : Bool) (n : ℕ) : Type 0 where
    pub held_is : held ≡ may_hold sections code
    pub pages_are : n ≡ pages_tried sections code

  pub tried_one : set (bit 0) ≡ false → Trial false 1
  unfolding may_hold at_bits tried_of
  tried_one e = record { held_is = rw e; pages_are = sym (tried_pages (bit 0 ∷ []) (rw e) ∙ one_page (page 0)) }

  module _ (first : set (bit 0) ≡ true) where
    pub tried_two : set (bit 1) ≡ false → (n : ℕ) → n ≡ distinct (page 0 ∷ page 1 ∷ []) → Trial false n
    unfolding may_hold at_bits tried_of
    tried_two e n is = record { held_is = rw (first, e); pages_are = is ∙ sym (tried_pages (bit 0 ∷ bit 1 ∷ []) (rw (first, e))) }

    pub tried_three : set (bit 1) ≡ true → (n : ℕ) → n ≡ distinct (page 0 ∷ page 1 ∷ page 2 ∷ []) → Trial (set (bit 2)) n
    unfolding may_hold at_bits tried_of
    tried_three e n is =
        record {
          held_is = rw (first, e);
          pages_are = is ∙ sym (tried_pages (bit 0 ∷ bit 1 ∷ bit 2 ∷ []) (rw (first, e) (last (set (bit 2)))));
        }
      where
        last : (t : Bool) → bit 0 ∷ bit 1 ∷ bit 2 ∷ cond t [] [] ≡ bit 0 ∷ bit 1 ∷ bit 2 ∷ []
        last true = refl
        last false = refl

-- ---- the same by the code's numbers: n sections, fragments of l bytes, the bits bs

pub record Bits (bs : List ℕ) (code : ℕ) : Type 0 where
  pub first : get_or bs 0 0 ≡ bloom_bit 0 (code - 1)
  pub second : get_or bs 1 0 ≡ bloom_bit 1 (code - 1)
  pub third : get_or bs 2 0 ≡ bloom_bit 2 (code - 1)

pub the_bits : (bs : List ℕ) (code : ℕ) → bs ≡ bits_of code → Bits bs code
the_bits bs code e = record { first = rw e; second = rw e; third = rw e }

pub bit_small : (which u : ℕ) {b : ℕ} → b ≡ bloom_bit which u → b < 1024
bit_small which u e = omega (arith, e, bit_below which u)

module _ (pages : List ℕ) (n s l code : ℕ) (bs : List ℕ) (p : n ≡ s) (q : l ≡ fragment_length n) (e : bs ≡ bits_of code) where
  abbrev met : ℕ → Bool
  met i = some_set (sections_in pages n) (get_or bs i 0)

  abbrev on : ℕ → ℕ
  on i = bit_page l (get_or bs i 0)

  pub trial_one : met 0 ≡ false → Trial pages s code false 1
  trial_one f = tried_one pages s code (rw (e, p) at f)

  module _ (first : met 0 ≡ true) (a b m : ℕ) (a_is : a ≡ on 0) (b_is : b ≡ on 1) where
    pub trial_two : met 1 ≡ false → m ≡ distinct (a ∷ b ∷ []) → Trial pages s code false m
    trial_two f is = tried_two pages s code (rw (e, p) at first) (rw (e, p) at f) m (is ∙ rw (a_is, b_is, q, p, e))

    pub trial_three : met 1 ≡ true → (d : ℕ) → d ≡ on 2 → m ≡ distinct (a ∷ b ∷ d ∷ []) → (t : Bool) → t ≡ met 2 → Trial pages s code t m
    trial_three f d d_is is t t_is =
        let third : t ≡ set pages s code (bit pages s code 2) = t_is ∙ rw (p, e) in
        rw third (tried_three pages s code (rw (e, p) at first) (rw (e, p) at f) m (is ∙ rw (a_is, b_is, d_is, q, p, e)))

-- ---- never more than two pages

page_few : (s code i : ℕ) → Length s → bit_page (fragment_length s) (bloom_bit i (code - 1)) < 2
page_few s code i l = go (dec_lt (bloom_bit i (code - 1) / 8) (fragment_length s))
  where
    b : ℕ
    b = bloom_bit i (code - 1)

    go : Dec (b / 8 < fragment_length s) → bit_page (fragment_length s) b < 2
    go (yes k) = omega (arith, page_first (fragment_length s) b k)
    go (no k) =
        let n = bit_below i (code - 1) in
        omega (arith, page_second (fragment_length s) b (omega arith) (omega (arith, l.half)))

two_most : (a b : ℕ) → distinct (a ∷ b ∷ []) ≤ 2
two_most a b = go (ℕ_discrete a b)
  where
    go : Dec (a ≡ b) → distinct (a ∷ b ∷ []) ≤ 2
    go (yes e) = omega (arith, same_page a b e)
    go (no f) = omega (arith, two_pages a b f)

three_most : (a b c : ℕ) → a < 2 → b < 2 → c < 2 → distinct (a ∷ b ∷ c ∷ []) ≤ 2
three_most a b c h k l = go (ℕ_discrete a b)
  where
    go : Dec (a ≡ b) → distinct (a ∷ b ∷ c ∷ []) ≤ 2
    go (yes e) = omega (arith, first_again a b c e, two_most b c)
    go (no f) = omega (arith, both_pages a b c h k l f)

-- whatever the pages hold
pub tried_most : (pages : List ℕ) (s code : ℕ) → 1 ≤ s → s ≤ 5 → pages_tried (sections_in pages s) code ≤ 2
tried_most pages s code some most = go (set pages s code (bit pages s code 0)) refl (set pages s code (bit pages s code 1)) refl
  where
    few : (i : ℕ) → page pages s code i < 2
    few i = page_few s code i (fragment_length_lem s some most)

    go : (x : Bool) → set pages s code (bit pages s code 0) ≡ x → (y : Bool) → set pages s code (bit pages s code 1) ≡ y
        → pages_tried (sections_in pages s) code ≤ 2
    go false e y f = omega (arith, (tried_one pages s code e).pages_are)
    go true e false f =
        omega (arith, (tried_two pages s code e f _ refl).pages_are, two_most (page pages s code 0) (page pages s code 1))
    go true e true f =
        omega (
          arith,
          (tried_three pages s code e f _ refl).pages_are,
          three_most (page pages s code 0) (page pages s code 1) (page pages s code 2) (few 0) (few 1) (few 2),
        )
