-- The mask of the buckets that are due is the set of the rules: a bit set is a number added, at every number; the lowest bit set is the next
-- bucket. Assumes nothing.
use Prim.Native.Nat.{ℕ, ◌-◌, ◌^◌, ◌<◌}
use mathlib.Core.Path.{◌≡◌, refl, sym, ap, ◌∙◌, fun_ext}
use mathlib.Core.Bool.{Bool, true, false, cond}
use native.Mathlib.Decide.{dec_lt, ℕ_discrete}
use native.Mathlib.Omega.{arith}
use lib.Bits.{bit_or}
use lib.Count.{count_trailing_zeros, trailing_of_zero}
use lib.Dec.{leb, ltb, eqb}
use borrow.Author.Tests.{eq-eqb, ne_eqb}
use Rattle.bitset.specs.Inner.Words.{bit}
use Rattle.bitset.proofs.Digits.{bit_zero, or_same, or_other, lowest, trailing_clear, clear_same, clear_other}
use Rattle.tree.specs.Bytes.{no_mid}
use Rattle.tree.specs.Reading.{child_at, kids_of}
use Rattle.tree.specs.Search.{reached_with, reached}
use Rattle.tree.specs.Inner.Seen.{head_of}
use Rattle.sweep.specs.Inner.Turns.{is_due, DueAbove}

true_false : true ≡ false → ⊥
true_false e = let z : ◌≡◌ {A = ℕ} 0 1 = cc in omega arith

-- bit c is set
pub due_more : (due c j : ℕ) → is_due (bit_or due (2 ^ c)) j ≡ cond (eqb j c) true (is_due due j)
due_more due c j = go (ℕ_discrete j c)
  where
    go : Dec (j ≡ c) → is_due (bit_or due (2 ^ c)) j ≡ cond (eqb j c) true (is_due due j)
    go (yes e) = rw (e, eq-eqb c c refl, or_same due c)
    go (no e) = rw (ne_eqb j c e, or_other due c j (λ d. e (sym d)))

-- only bit 0 is set: the root
pub due_root : (j : ℕ) → is_due 1 j ≡ eqb j 0
due_root j = due_more 0 0 j ∙ go (eqb j 0)
  where
    go : (q : Bool) → cond q true (is_due 0 j) ≡ q
    go true = refl
    go false = rw (bit_zero j)

-- b is the lowest number that is due, and `rest` is due without it
pub record Low (due b rest : ℕ) : Type 0 where
  pub here : is_due due b ≡ true
  pub least : (j : ℕ) → j < b → is_due due j ≡ false
  pub others : (j : ℕ) → b < j → is_due rest j ≡ is_due due j
  pub above : (j : ℕ) → is_due rest j ≡ true → (b < j) × (is_due due j ≡ true)

module _ (due : ℕ) (some_due : 0 < due) (fits : due < 2 ^ 64) where
  abbrev low : ℕ
  low = count_trailing_zeros 64 due

  low_set : bit due low ≡ 1
  low_set = (lowest 64 due some_due fits).is_set_lem

  low_least : (j : ℕ) → j < low → is_due due j ≡ false
  low_least j h = rw (trailing_clear 64 due j h)

  low_others : (j : ℕ) → low < j → is_due (due - 2 ^ low) j ≡ is_due due j
  low_others j h = ap (λ (d : ℕ). eqb d 1) (clear_other low j due (λ e. omega arith) low_set)

  low_above : (j : ℕ) → is_due (due - 2 ^ low) j ≡ true → (low < j) × (is_due due j ≡ true)
  low_above j e = go (ℕ_discrete low j) (dec_lt j low)
    where
      as_before : (low ≡ j → ⊥) → is_due due j ≡ true
      as_before n = rw (clear_other low j due n low_set) at e

      go : Dec (low ≡ j) → Dec (j < low) → (low < j) × (is_due due j ≡ true)
      go (yes d) l = let z : is_due (due - 2 ^ low) j ≡ false = rw (← d, clear_same low due low_set) in absurd (true_false (sym e ∙ z))
      go (no d) (yes l) = absurd (true_false (sym (as_before d) ∙ low_least j l))
      go (no d) (no l) = (omega arith, as_before d)

  pub lowest_due : (b rest : ℕ) → b ≡ low → rest ≡ due - 2 ^ low → Low due b rest
  lowest_due b rest b-is rest_is =
      rw (b-is, rest_is)
      (record { here = eq-eqb (bit due low) 1 low_set; least = low_least; others = low_others; above = low_above })

  -- the lowest of those above it
  pub lowest_rises : (more : ℕ) → more < 2 ^ 64 → DueAbove low more → low < count_trailing_zeros 64 more
  lowest_rises more m h = go (dec_lt 0 more)
    where
      go : Dec (0 < more) → low < count_trailing_zeros 64 more
      go (yes p) = h (count_trailing_zeros 64 more) (eq-eqb _ 1 (lowest 64 more p m).is_set_lem)
      go (no p) =
          let z : more ≡ 0 = omega arith in
          rw (z, trailing_of_zero 64) (lowest 64 due some_due fits).below

-- no child; a child that is not taken; one that is
pub child_none : (due c : ℕ) (taken : Bool) → c ≡ 255 → (j : ℕ) → is_due due j ≡ reached_with taken (child_at c) (is_due due) j
child_none due c true e j = rw (eq-eqb c 255 e)
child_none due c false e j = refl

pub child_left : (due c : ℕ) (taken : Bool) → taken ≡ false → (j : ℕ) → is_due due j ≡ reached_with taken (child_at c) (is_due due) j
child_left due c taken e j = rw e

pub child_taken : (due c : ℕ) (taken : Bool) → (c ≡ 255 → ⊥) → taken ≡ true
    → (j : ℕ) → is_due (bit_or due (2 ^ c)) j ≡ reached_with taken (child_at c) (is_due due) j
child_taken due c taken h e j = rw (e, ne_eqb c 255 h) (due_more due c j)

module _ (due mid left right k1 k2 : ℕ) where
  pub kids_whole : mid ≡ no_mid → (j : ℕ) → is_due due j ≡ reached k1 k2 (kids_of (head_of 0 0 mid left right)) (is_due due) j
  unfolding kids_of
  kids_whole e j = rw (eq-eqb mid no_mid e)

  pub kids_split : (one two : ℕ) → (mid ≡ no_mid → ⊥)
      → ((j : ℕ) → is_due one j ≡ reached_with (leb k1 mid) (child_at left) (is_due due) j)
      → ((j : ℕ) → is_due two j ≡ reached_with (ltb mid k2) (child_at right) (is_due one) j)
      → (j : ℕ) → is_due two j ≡ reached k1 k2 (kids_of (head_of 0 0 mid left right)) (is_due due) j
  unfolding kids_of
  kids_split one two h e f j =
      rw (ne_eqb mid no_mid h)
      (f j ∙ ap (λ (r : ℕ → Bool). reached_with (ltb mid k2) (child_at right) r j) (fun_ext e))
