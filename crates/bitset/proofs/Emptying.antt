-- The lowest place: trailing zeros find it, and the set without it has the other places. `next_of` takes it off the set's places.
use mathlib.Core.Path.{subst, ◌≡◌, refl, sym, ap, ◌∙◌}
use mathlib.Core.Bool.{true, false, not, ◌&&◌}
use mathlib.Core.List.{List, [], ◌∷◌, ◌++◌}
use Prim.Native.Nat.{ℕ, suc, ◌+◌, ◌-◌, ◌*◌, ◌/◌, ◌%◌, ◌^◌, ◌<◌}
use native.Mathlib.Decide.{dec_lt}
use native.Mathlib.Omega.{arith}
use lib.Count.{count_trailing_zeros, trailing_le}
use lib.Dec.{eqb}
use lib.ListN.{get_or, set}
use borrow.Author.Tests.{eq-eqb}
use Rattle.std.specs.Prelude.{Option, Some, None}
use Rattle.bitset.specs.Set.{picked}
use Rattle.bitset.specs.Inner.Words.{has, without, members}
use Rattle.bitset.specs.Inner.Emptying.{next_among, next_of, IsFirst}
use Rattle.bitset.specs.declared.Bits.{Bits}
use Rattle.bitset.proofs.Digits.{bit_zero, trailing_clear, lowest}
use Rattle.bitset.proofs.Picked.{picked_same, picked_none, picked_first, picks, picked_out}
use Rattle.bitset.proofs.Set.{has_without}

-- ---- a place taken out

-- a place of the set
module _ (ws : List ℕ) (p : ℕ) (xs ys : List ℕ) (e : members ws ≡ xs ++ (p ∷ ys)) where
  pub place_in : (p < 320) × (has ws p ≡ true)
  unfolding members
  place_in = let h = picks (has ws) p ys 0 320 xs e in (omega (arith, h.high), h.passes)

  -- without it those before it and those behind it are left
  pub members_without : members (without ws p) ≡ xs ++ ys
  unfolding members
  members_without =
      picked_same (has (without ws p)) (λ q. not (eqb q p) && has ws q) 0 320 (λ q a u. has_without ws p q place_in.1)
      ∙ picked_out (has ws) p ys 0 320 xs e

-- ---- the first place by words

-- the lowest place is the first that is in the set
first_at : (ws : List ℕ) (d : ℕ) → d < 320 → ((q : ℕ) → q < d → has ws q ≡ false) → has ws d ≡ true
    → members ws ≡ d ∷ members (without ws d)
unfolding members
first_at ws d l z t =
    let n : d + suc (319 - d) ≡ 320 = omega arith in
    let s : 0 + d ≡ d = omega arith in
    let first : picked (has ws) 0 (d + suc (319 - d)) ≡ (0 + d) ∷ picked (has ws) (suc (0 + d)) (319 - d) =
    picked_first (has ws) 0 d (319 - d) (λ q a u. z q (omega arith)) (rw s t) in
    let e = rw (n, s) at first in
    e ∙ ap (λ (r : List ℕ). d ∷ r) (sym (members_without ws d [] _ e))

-- words 0 to i - 1 are 0 and word i is not: t is its count of trailing zeros
pub first_found : (ws : List ℕ) (i t : ℕ) → i < 5 → ((k : ℕ) → k < i → get_or ws k 0 ≡ 0)
    → 0 < get_or ws i 0 → get_or ws i 0 < 2 ^ 64 → t ≡ count_trailing_zeros 64 (get_or ws i 0)
    → (members ws ≡ (64 * i + t) ∷ members (without ws (64 * i + t))) × (without ws (64 * i + t) ≡ set ws i (get_or ws i 0 - 2 ^ t))
    × (64 * i + t < 320)
first_found ws i t l z p h e =
    let w = lowest 64 word p h in
    let u : t < 64 = omega (arith, w.below) in
    let q : (64 * i + t) / 64 ≡ i = omega arith in
    let r : (64 * i + t) % 64 ≡ t = omega arith in
    let on : has ws (64 * i + t) ≡ true = rw (q, r, e) (eq-eqb _ _ w.is_set_lem) in
    (first_at ws (64 * i + t) (omega arith) before on, rw (q, r), omega arith)
  where
    word : ℕ
    word = get_or ws i 0

    before : (q : ℕ) → q < 64 * i + t → has ws q ≡ false
    before q l = inside (dec_lt (q / 64) i)
      where
        inside : Dec (q / 64 < i) → has ws q ≡ false
        inside (yes u) = rw (z (q / 64) u, bit_zero (q % 64))
        inside (no f) =
            let c : q / 64 ≡ i = omega (arith, trailing_le 64 word) in
            rw (c, trailing_clear 64 word (q % 64) (omega (arith, trailing_le 64 word)))

pub first_none : (ws : List ℕ) → ((k : ℕ) → k < 5 → get_or ws k 0 ≡ 0) → members ws ≡ []
unfolding members
first_none ws z = picked_none (has ws) 0 320 (λ p a u. rw (z (p / 64) (omega arith), bit_zero (p % 64)))

-- ---- what emptying from the lowest bit gives

module _ (b : Bits) where
  among_first : (l : List ℕ) → members b.words ≡ l → IsFirst b (next_among b l)
  among_first [] e = e
  among_first (p ∷ ps) e =
      (e ∙ ap (λ (r : List ℕ). p ∷ r) (sym (members_without b.words p [] ps e)), refl, (place_in b.words p [] ps e).0)

  next_first : IsFirst b (next_of b)
  unfolding next_of
  next_first = among_first (members b.words) refl

  given : (r : Option (ℕ × Bits)) → next_of b ≡ r → IsFirst b r
  given r e = subst (IsFirst b) e next_first

  pub next_step : (f : ℕ × Bits) → next_of b ≡ Some f → members b.words ≡ f.0 ∷ members f.1.words
  next_step f e = (given (Some f) e).0

  pub next_end : next_of b ≡ None → members b.words ≡ []
  next_end e = given None e

  pub next_below : (f : ℕ × Bits) → next_of b ≡ Some f → f.0 < 320
  next_below f e = (given (Some f) e).2

  -- the first is what `next_of` gives
  pub first_next : (r : Option (ℕ × Bits)) → IsFirst b r → (r ≡ next_of b) × IsFirst b r
  unfolding next_of
  first_next None h = (sym (ap (next_among b) h), h)
  first_next (Some f) h = (ap (λ (ws : List ℕ). Some (f.0, record { words = ws })) h.1 ∙ sym (ap (next_among b) h.0), h)
