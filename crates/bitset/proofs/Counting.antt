-- The set has as many places as its five words have ones: a word's places are counted by halving it, the words in turn.
use mathlib.Core.Path.{◌≡◌, refl, ap, ap₂, ◌∙◌}
use mathlib.Core.Bool.{Bool, cond}
use mathlib.Core.List.{List, ◌∷◌}
use Prim.Native.Nat.{ℕ, zero, suc, ◌+◌, ◌*◌, ◌/◌, ◌%◌, ◌^◌, ◌<◌}
use native.Mathlib.Omega.{arith}
use lib.Count.{ones, ones_step}
use lib.Dec.{eqb}
use lib.ListN.{length, get_or, length-append}
use Rattle.bitset.specs.Set.{picked}
use Rattle.bitset.specs.Inner.Words.{bit, has, members}
use Rattle.bitset.proofs.Digits.{bit_suc}
use Rattle.bitset.proofs.Picked.{picked_append}

zero_ones : 0 ≡ ones 0
unfolding ones
zero_ones = refl

-- where a test tells the digits of an x of k digits, it picks as many numbers as x has ones
pub word_count : (f : ℕ → Bool) (base k x : ℕ) → ((j : ℕ) → j < k → f (base + j) ≡ eqb (bit x j) 1) → x < 2 ^ k
    → length (picked f base k) ≡ ones x
unfolding picked
word_count f base zero x h l = let e : x ≡ 0 = omega arith in rw e zero_ones
word_count f base (suc k) x h l = go (x % 2) refl first (word_count f (suc base) k (x / 2) later (omega arith))
  where
    first : f base ≡ eqb (x % 2) 1
    first =
        let a : base ≡ base + 0 = omega arith in
        let b : bit x 0 ≡ x % 2 = omega arith in
        ap f a ∙ h 0 (omega arith) ∙ ap (λ (n : ℕ). eqb n 1) b

    later : (j : ℕ) → j < k → f (suc base + j) ≡ eqb (bit (x / 2) j) 1
    later j q =
        let a : suc base + j ≡ base + suc j = omega arith in
        ap f a ∙ h (suc j) (omega arith) ∙ ap (λ (n : ℕ). eqb n 1) (bit_suc x j)

    go : (d : ℕ) → x % 2 ≡ d → f base ≡ eqb d 1 → length (picked f (suc base) k) ≡ ones (x / 2)
        → length (cond (f base) (base ∷ picked f (suc base) k) (picked f (suc base) k)) ≡ ones x
    go zero e t ih = rw t (omega (arith, ones_step x))
    go (suc zero) e t ih = rw t (omega (arith, ones_step x))
    go (suc (suc d)) e t ih = absurd (omega arith)

-- each is a word
abbrev pub Words : List ℕ → Type 0
Words ws = (k : ℕ) → get_or ws k 0 < 2 ^ 64

-- the ones of n words from word i on
abbrev ones_from : List ℕ → ℕ → ℕ → ℕ
ones_from ws i zero = 0
ones_from ws i (suc n) = ones (get_or ws i 0) + ones_from ws (suc i) n

words_count : (ws : List ℕ) (i n : ℕ) → Words ws → length (picked (has ws) (64 * i) (64 * n)) ≡ ones_from ws i n
words_count ws i zero h = unfold picked in refl
words_count ws i (suc n) h =
    let a : 64 * suc n ≡ 64 + 64 * n = omega arith in
    let b : 64 * i + 64 ≡ 64 * suc i = omega arith in
    rw (a, picked_append (has ws) (64 * i) 64 (64 * n), length-append, b)
    (ap₂ ◌+◌ (word_count (has ws) (64 * i) 64 (get_or ws i 0) word (h i)) (words_count ws (suc i) n h))
  where
    word : (j : ℕ) → j < 64 → has ws (64 * i + j) ≡ eqb (bit (get_or ws i 0) j) 1
    word j l =
        let q : (64 * i + j) / 64 ≡ i = omega arith in
        let r : (64 * i + j) % 64 ≡ j = omega arith in
        rw (q, r)

pub members_count : (ws : List ℕ) → Words ws
    → length (members ws) ≡ ones (get_or ws 0 0) + ones (get_or ws 1 0) + ones (get_or ws 2 0) + ones (get_or ws 3 0) + ones (get_or ws 4 0)
unfolding members
members_count ws h = omega (arith, words_count ws 0 5 h)
