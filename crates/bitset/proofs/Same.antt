-- Two sets of the same places have the same words, in whatever order the places went in. Assumes nothing.
use mathlib.Core.Path.{◌≡◌, sym, ◌∙◌}
use mathlib.Core.List.{List, [], ◌∷◌}
use Prim.Native.Nat.{ℕ, zero, suc, ◌+◌, ◌*◌, ◌/◌, ◌%◌, ◌^◌, ◌<◌}
use native.Mathlib.Decide.{dec_lt, ℕ_discrete}
use native.Mathlib.Omega.{arith}
use lib.Bits.{or_lt}
use lib.Dec.{eqb}
use lib.ListN.{length, get_or, set}
use lib.Pow.{pow-lt}
use borrow.Author.Tests.{eq-eqb, eqb-true}
use lib.Seq.{get_or-set_same, get_or-set_other, set_out, ext_get_or}
use Rattle.bitset.specs.Set.{elem}
use Rattle.bitset.specs.Inner.Words.{bit, empty_words, insert_in, insert_all, Below}
use Rattle.bitset.proofs.Digits.{bit_suc}
use Rattle.bitset.proofs.Set.{length_insert_all, has_inserted_all}

-- numbers of n digits are told apart by them
digits_same : (n x y : ℕ) → x < 2 ^ n → y < 2 ^ n → ((j : ℕ) → j < n → bit x j ≡ bit y j) → x ≡ y
digits_same zero x y a b h = omega arith
digits_same (suc n) x y a b h =
    let half : x / 2 ≡ y / 2 =
    digits_same n (x / 2) (y / 2) (omega arith) (omega arith)
    (λ j l. sym (bit_suc x j) ∙ h (suc j) (omega arith) ∙ bit_suc y j) in
    omega (arith, half, h 0 (omega arith))

-- every word of a set is a number of 64 digits
abbrev Small : List ℕ → Type 0
Small ws = (i : ℕ) → get_or ws i 0 < 2 ^ 64

small_empty : Small empty_words
small_empty zero = omega arith
small_empty (suc zero) = omega arith
small_empty (suc (suc zero)) = omega arith
small_empty (suc (suc (suc zero))) = omega arith
small_empty (suc (suc (suc (suc zero)))) = omega arith
small_empty (suc (suc (suc (suc (suc i))))) = omega arith

small_set : (ws : List ℕ) (k v : ℕ) → Small ws → v < 2 ^ 64 → Small (set ws k v)
small_set ws k v s l i = go (ℕ_discrete i k) (dec_lt k (length ws))
  where
    go : Dec (i ≡ k) → Dec (k < length ws) → get_or (set ws k v) i 0 < 2 ^ 64
    go (yes e) (yes h) = rw (e, get_or-set_same ws k v 0 h) l
    go (yes e) (no h) = rw (set_out ws k v (omega arith)) (s i)
    go (no e) d = rw (get_or-set_other ws k i v 0 e) (s i)

small_all : (ps ws : List ℕ) → Small ws → Small (insert_all ws ps)
unfolding insert_all
small_all [] ws s = s
small_all (p ∷ ps) ws s =
    let low : p % 64 < 64 = omega arith in
    small_all ps (insert_in ws p)
    (small_set ws (p / 64) _ s (or_lt 64 (get_or ws (p / 64) 0) (2 ^ (p % 64)) (s (p / 64)) (pow-lt low)))

digit_is : (a b : ℕ) → a < 2 → b < 2 → eqb a 1 ≡ eqb b 1 → a ≡ b
digit_is a b l m e = go (ℕ_discrete a 1) (ℕ_discrete b 1)
  where
    go : Dec (a ≡ 1) → Dec (b ≡ 1) → a ≡ b
    go (yes f) (yes g) = f ∙ sym g
    go (yes f) (no g) = absurd (g (eqb-true b 1 (sym e ∙ eq-eqb a 1 f)))
    go (no f) (yes g) = absurd (f (eqb-true a 1 (e ∙ eq-eqb b 1 g)))
    go (no f) (no g) = omega arith

pub same_words : (ps qs : List ℕ) → Below 320 ps → Below 320 qs → ((p : ℕ) → p < 320 → elem p ps ≡ elem p qs)
    → insert_all empty_words ps ≡ insert_all empty_words qs
same_words ps qs a b same =
    let ws = insert_all empty_words ps in
    let vs = insert_all empty_words qs in
    ext_get_or 0 ws vs (length_insert_all empty_words ps ∙ sym (length_insert_all empty_words qs)) (λ i l.
    digits_same 64 (get_or ws i 0) (get_or vs i 0) (small_all ps empty_words small_empty i) (small_all qs empty_words small_empty i) (λ j m.
    let word : (64 * i + j) / 64 ≡ i = omega arith in
    let digit : (64 * i + j) % 64 ≡ j = omega arith in
    digit_is _ _ (omega arith) (omega arith)
    (rw (word, digit) at (has_inserted_all ps (64 * i + j) a
    ∙ same (64 * i + j) (omega (arith, l, length_insert_all empty_words ps)) ∙ sym (has_inserted_all qs (64 * i + j) b)))))
