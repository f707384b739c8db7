-- What an insertion, a list of insertions and a removal do to `has`, hence to the set's places.
use mathlib.Core.Path.{◌≡◌, refl, ap, ◌∙◌}
use mathlib.Core.Bool.{Bool, true, false, not, ◌&&◌, ◌||◌}
use mathlib.Core.List.{List, [], ◌∷◌}
use Prim.Native.Nat.{ℕ, zero, suc, ◌-◌, ◌*◌, ◌/◌, ◌%◌, ◌^◌, ◌≤◌, ◌<◌}
use native.Mathlib.Decide.{ℕ_discrete, dec_lt}
use native.Mathlib.Omega.{arith}
use lib.Dec.{eqb}
use lib.ListN.{length, get_or, set, length-set, get_or-eq_default}
use lib.Seq.{get_or-set_same}
use borrow.Author.Tests.{eqb-true, eq-eqb, ne_eqb}
use Rattle.bitset.specs.Set.{picked, elem}
use Rattle.bitset.specs.Inner.Words.{Below, bit, has, empty_words, insert_in, insert_all, without, members}
use Rattle.bitset.proofs.Digits.{bit_zero, cell_other, or_cell_same, or_cell_other, clear_same, clear_other}
use Rattle.bitset.proofs.Picked.{picked_same, picked_none, picked_within, Within}

-- ---- one place put in, or taken out

pub has_inserted : (ws : List ℕ) (p q : ℕ) → p / 64 < length ws → has (insert_in ws p) q ≡ (eqb q p || has ws q)
has_inserted ws p q l = go (ℕ_discrete q p)
  where
    go : Dec (q ≡ p) → has (insert_in ws p) q ≡ (eqb q p || has ws q)
    go (yes e) = rw (e, eq-eqb p p refl, or_cell_same ws (p / 64) (p % 64) l)
    go (no f) = rw (ne_eqb q p f, or_cell_other ws (p / 64) (p % 64) (q / 64) (q % 64) l (λ e. omega arith))

-- a place of the set lies in one of its words
has_in : (ws : List ℕ) (p : ℕ) → has ws p ≡ true → p / 64 < length ws
has_in ws p h = go (dec_lt (p / 64) (length ws))
  where
    clear : length ws ≤ p / 64 → bit (get_or ws (p / 64) 0) (p % 64) ≡ 0
    clear g = rw (get_or-eq_default ws 0 g) (bit_zero (p % 64))

    go : Dec (p / 64 < length ws) → p / 64 < length ws
    go (yes l) = l
    go (no f) = let on : bit (get_or ws (p / 64) 0) (p % 64) ≡ 1 = eqb-true _ _ h in absurd (omega (arith, clear (omega arith)))

pub has_without : (ws : List ℕ) (p q : ℕ) → has ws p ≡ true → has (without ws p) q ≡ (not (eqb q p) && has ws q)
has_without ws p q h = go (ℕ_discrete q p)
  where
    w : ℕ
    w = get_or ws (p / 64) 0

    l : p / 64 < length ws
    l = has_in ws p h

    on : bit w (p % 64) ≡ 1
    on = eqb-true _ _ h

    v : ℕ
    v = w - 2 ^ (p % 64)

    go : Dec (q ≡ p) → has (set ws (p / 64) v) q ≡ (not (eqb q p) && has ws q)
    go (yes e) = rw (e, eq-eqb p p refl, get_or-set_same ws (p / 64) v 0 l, clear_same (p % 64) w on)
    go (no f) =
        rw (ne_eqb q p f, cell_other ws (p / 64) v (q / 64) (q % 64) l (λ e. clear_other (p % 64) (q % 64) w (omega arith) on))

-- ---- the empty set, and a list of places put into it

pub has_empty : (p : ℕ) → has empty_words p ≡ false
has_empty p = go (p / 64)
  where
    go : (i : ℕ) → eqb (bit (get_or empty_words i 0) (p % 64)) 1 ≡ false
    go zero = rw bit_zero
    go (suc zero) = rw bit_zero
    go (suc (suc zero)) = rw bit_zero
    go (suc (suc (suc zero))) = rw bit_zero
    go (suc (suc (suc (suc zero)))) = rw bit_zero
    go (suc (suc (suc (suc (suc i))))) = rw bit_zero

pub length_insert_all : (ws ps : List ℕ) → length (insert_all ws ps) ≡ length ws
unfolding insert_all
length_insert_all ws [] = refl
length_insert_all ws (p ∷ ps) = length_insert_all (insert_in ws p) ps ∙ length-set ws _ _

or_swap : (a b c : Bool) → (a || (b || c)) ≡ ((b || a) || c)
or_swap true true c = refl
or_swap true false c = refl
or_swap false true c = refl
or_swap false false c = refl

pub has_all : (ps ws : List ℕ) (q : ℕ) → Below (64 * length ws) ps → has (insert_all ws ps) q ≡ (elem q ps || has ws q)
unfolding insert_all elem
has_all [] ws q h = refl
has_all (p ∷ ps) ws q h =
    let same : length (insert_in ws p) ≡ length ws = length-set ws _ _ in
    has_all ps (insert_in ws p) q (rw same h.1)
    ∙ ap (λ (b : Bool). elem q ps || b) (has_inserted ws p q (omega (arith, h.0)))
    ∙ or_swap (elem q ps) (eqb q p) (has ws q)

or_false : (a b : Bool) → b ≡ false → (a || b) ≡ a
or_false true b e = refl
or_false false b e = e

-- the places of a list put into the empty set are the list's
pub has_inserted_all : (ps : List ℕ) (q : ℕ) → Below 320 ps → has (insert_all empty_words ps) q ≡ elem q ps
has_inserted_all ps q h = has_all ps empty_words q h ∙ or_false (elem q ps) _ (has_empty q)

pub members_empty : members empty_words ≡ []
unfolding members
members_empty = picked_none (has empty_words) 0 320 (λ p a b. has_empty p)

pub members_inserted_all : (ps : List ℕ) → Below 320 ps → members (insert_all empty_words ps) ≡ picked (λ q. elem q ps) 0 320
unfolding members
members_inserted_all ps h = picked_same _ _ 0 320 (λ q a b. has_inserted_all ps q h)

-- the places rise, lie below 320, and are in the set
pub members_within : (ws : List ℕ) → Within (has ws) 0 320 (members ws)
unfolding members
members_within ws = picked_within (has ws) 0 320

pub length_members : (ws : List ℕ) → length (members ws) ≤ 320
length_members ws = omega (arith, (members_within ws).size)
