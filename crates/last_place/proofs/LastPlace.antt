-- The highest place of a set. The idea: where 2 to the k is at most a word and the next power is above it, the word's bit k is set and
-- none above it; so a place of the last word that is not 0 is in the set and none above it is, and the set's places are those of the set
-- without it, then it. Assumes nothing.
use mathlib.Core.Path.{◌≡◌, sym, ap, ap₂, ◌∙◌}
use mathlib.Core.Bool.{true, false}
use mathlib.Core.List.{List, [], ◌∷◌, ◌++◌, append-nil}
use Prim.Native.Nat.{ℕ, zero, suc, ◌+◌, ◌-◌, ◌*◌, ◌/◌, ◌%◌, ◌^◌, ◌≤◌, ◌<◌}
use native.Mathlib.Nat.{div-eq_of_lt}
use native.Mathlib.Decide.{dec_lt, ℕ_discrete}
use native.Mathlib.Omega.{arith}
use lib.Count.{count_leading_zeros, leading_top}
use lib.ListN.{length, get_or, set}
use lib.Pow.{pow_mono}
use borrow.Author.Tests.{eq-eqb}
use Rattle.bitset.specs.Set.{picked}
use Rattle.bitset.specs.Inner.Words.{bit, has, without, members}
use Rattle.bitset.specs.declared.Bits.{Bits}
use Rattle.std.specs.Prelude.{Some}
use Rattle.bitset.proofs.Digits.{bit_suc, bit_zero}
use Rattle.bitset.proofs.Picked.{picked_append, picked_none}
use Rattle.bitset.proofs.Emptying.{members_without}
use Rattle.bitset.proofs.Words.{five_of, five}
use Rattle.last_place.specs.Inner.Last.{IsLast}

-- ---- the highest bit of a number

-- by its leading zeros
pub highest_is : (x : ℕ) → 0 < x → x < 2 ^ 64
    → (count_leading_zeros 64 x ≤ 63) × (2 ^ (63 - count_leading_zeros 64 x) ≤ x) × (x < 2 * 2 ^ (63 - count_leading_zeros 64 x))
highest_is x p h =
    let t = leading_top 64 x p h in
    let z : count_leading_zeros 64 x + suc t.0 ≡ 64 = t.1 in
    let e : 63 - count_leading_zeros 64 x ≡ t.0 = omega arith in
    (omega arith, rw e t.2, rw e (omega (arith, t.3)))

pub top_set : (k x : ℕ) → 2 ^ k ≤ x → x < 2 * 2 ^ k → bit x k ≡ 1
top_set zero x l h = omega arith
top_set (suc k) x l h = bit_suc x k ∙ top_set k (x / 2) (omega arith) (omega arith)

pub above_clear : (k j x : ℕ) → x < 2 * 2 ^ k → k < j → bit x j ≡ 0
above_clear k j x h l =
    let m : 2 ^ suc k ≤ 2 ^ j = pow_mono l in
    ap (λ (n : ℕ). n % 2) (div-eq_of_lt (omega arith))

-- ---- the highest place of a set

places_end : (ws : List ℕ) (p : ℕ) → p < 320 → has ws p ≡ true → ((q : ℕ) → p < q → q < 320 → has ws q ≡ false)
    → members ws ≡ picked (has ws) 0 p ++ (p ∷ [])
unfolding members picked
places_end ws p l t above =
    let n : 320 ≡ p + suc (319 - p) = omega arith in
    let z : 0 + p ≡ p = omega arith in
    let none : picked (has ws) (suc p) (319 - p) ≡ [] =
    picked_none (has ws) (suc p) (319 - p) (λ q a b. above q (omega arith) (omega arith)) in
    ap (picked (has ws) 0) n ∙ picked_append (has ws) 0 p (suc (319 - p)) ∙ rw (z, t, none)

-- the places are those of the set without it, then it
pub highest_place : (ws : List ℕ) (p : ℕ) → p < 320 → has ws p ≡ true → ((q : ℕ) → p < q → q < 320 → has ws q ≡ false)
    → members ws ≡ members (without ws p) ++ (p ∷ [])
highest_place ws p l t above =
    let e = places_end ws p l t above in
    let w : members (without ws p) ≡ picked (has ws) 0 p = members_without ws p (picked (has ws) 0 p) [] e ∙ append-nil _ in
    e ∙ ap (λ (xs : List ℕ). xs ++ (p ∷ [])) (sym w)

-- the words after word i are 0
abbrev pub ZerosAfter : List ℕ → ℕ → Type 0
ZerosAfter ws i = (j : ℕ) → i < j → j < 5 → get_or ws j 0 ≡ 0

pub after_none : (ws : List ℕ) → ZerosAfter ws 4
after_none ws j l h = absurd (omega arith)

pub after_more : (ws : List ℕ) (i : ℕ) → ZerosAfter ws (suc i) → get_or ws (suc i) 0 ≤ 0 → ZerosAfter ws i
after_more ws i z h j l b = go (ℕ_discrete j (suc i))
  where
    go : Dec (j ≡ suc i) → get_or ws j 0 ≡ 0
    go (yes e) = rw e (omega arith)
    go (no f) = z j (omega arith) b

-- word i is the last that is not 0, and k its highest bit
pub last_found : (b : Bits) (i k v : ℕ) (r : ℕ × Bits) → length b.words ≡ 5 → i < 5 → ZerosAfter b.words i
    → (k < 64) × (2 ^ k ≤ get_or b.words i 0) × (get_or b.words i 0 < 2 * 2 ^ k) → v ≡ 2 ^ k
    → (r.0 ≡ 64 * i + k) × (r.1.words ≡ set (five_of b.words) i (get_or b.words i 0 - v))
    → IsLast b (Some r)
last_found b i k v r n l z h ev er =
    let same : set (five_of b.words) i (get_or b.words i 0 - v) ≡ set b.words i (get_or b.words i 0 - 2 ^ k) =
    ap₂ (λ (ws : List ℕ) (u : ℕ). set ws i (get_or b.words i 0 - u)) (five b.words n) ev in
    rw (er.1 ∙ same, er.0) (rw (q, m) at (highest_place b.words (64 * i + k) (omega (arith, h.0)) on above))
  where
    q : (64 * i + k) / 64 ≡ i
    q = omega (arith, h.0)

    m : (64 * i + k) % 64 ≡ k
    m = omega (arith, h.0)

    on : has b.words (64 * i + k) ≡ true
    on = rw (q, m) (eq-eqb _ _ (top_set k (get_or b.words i 0) h.1 h.2))

    above : (p : ℕ) → 64 * i + k < p → p < 320 → has b.words p ≡ false
    above p u w = go (dec_lt i (p / 64))
      where
        go : Dec (i < p / 64) → has b.words p ≡ false
        go (yes d) = rw (z (p / 64) d (omega arith), bit_zero (p % 64))
        go (no d) =
            let s : p / 64 ≡ i = omega arith in
            rw (s, above_clear k (p % 64) (get_or b.words i 0) h.2 (omega arith))

no_place : (ws : List ℕ) → ((j : ℕ) → j < 5 → get_or ws j 0 ≡ 0) → members ws ≡ []
unfolding members
no_place ws z = picked_none (has ws) 0 320 (λ p a u. rw (z (p / 64) (omega arith), bit_zero (p % 64)))

pub last_none : (b : Bits) → ZerosAfter b.words 0 → get_or b.words 0 0 ≤ 0 → members b.words ≡ []
last_none b z h = no_place b.words zero_word
  where
    zero_word : (j : ℕ) → j < 5 → get_or b.words j 0 ≡ 0
    zero_word zero l = omega arith
    zero_word (suc j) l = z (suc j) (omega arith) l
