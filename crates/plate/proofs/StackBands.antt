-- Every load lies in exactly one band of a stack, and its plate is that one (document 02, W-205 and W-206). The idea: the first end that
-- a load is not past is the only one, because the ends rise. Assumes nothing.
use mathlib.Core.Path.{◌≡◌, refl, sym, ap, ◌∙◌}
use mathlib.Core.Bool.{Bool, true, false, cond}
use mathlib.Core.List.{List, [], ◌∷◌}
use Prim.Native.Nat.{ℕ, zero, suc, ◌+◌, ◌-◌, ◌≤◌, ◌<◌}
use native.Mathlib.Omega.{arith}
use borrow.Author.Tests.{ltb-true, ltb-false, leb-true, leb-false, lt-ltb, eq-eqb, ne_eqb}
use lib.Dec.{ltb, leb, eqb}
use lib.IntN.{ℤ, pos, sub_ℕ}
use lib.ListN.{length}
use lib.Signed.{lt_z, le_z}
use Rattle.codec.proofs.Truth.{and_left, and_right, or_second, or_other}
use Rattle.lift.proofs.Differences as D
use Rattle.plate.specs.Stack.{is_stack, end_of, ends_from, ends_of, past_above, in_band_of, plate_by, plate_on}
use Rattle.plate.proofs.Ends.{ends_rise_to}

-- ---- a load against an end, on naturals

pub up_to : (c k end : ℕ) → le_z (sub_ℕ c k) (pos end) ≡ leb c (end + k)
up_to c k end = ap (le_z (sub_ℕ c k)) (sym (D.is_pos end 0 end (omega arith))) ∙ D.le c k end 0 c (end + k) (omega arith)

pub past : (c k end : ℕ) → lt_z (pos end) (sub_ℕ c k) ≡ ltb (end + k) c
past c k end = ap (λ z. lt_z z (sub_ℕ c k)) (sym (D.is_pos end 0 end (omega arith))) ∙ D.lt end 0 c k (end + k) c (omega arith)

-- a load that is not up to an end is past it
past_it : (end : ℕ) (load : ℤ) → le_z load (pos end) ≡ false → lt_z (pos end) load ≡ true
past_it end = D.every (λ z. le_z z (pos end) ≡ false → lt_z (pos end) z ≡ true) (λ c k h.
    past c k end ∙ lt-ltb (end + k) c (leb-false c (end + k) (sym (up_to c k end) ∙ h)))

-- it is not both up to an end and past a higher one
not_both : (end higher : ℕ) (load : ℤ) → end ≤ higher → le_z load (pos end) ≡ true → lt_z (pos higher) load ≡ true → ⊥
not_both end higher load l = D.every (λ z. le_z z (pos end) ≡ true → lt_z (pos higher) z ≡ true → ⊥) (λ c k h g.
    let a = leb-true c (end + k) (sym (up_to c k end) ∙ h) in
    let b = ltb-true (higher + k) c (sym (past c k higher) ∙ g) in
    omega arith) load

-- ---- the plate of a load lies within the stack, and the load in its band

pub plate_within : (ends : List ℕ) (load : ℤ) → plate_by ends load ≤ length ends
unfolding plate_by
plate_within [] load = omega arith
plate_within (end ∷ ends) load = go (le_z load (pos end)) (plate_within ends load)
  where
    go : (t : Bool) → plate_by ends load ≤ length ends → cond t 0 (suc (plate_by ends load)) ≤ suc (length ends)
    go true h = omega arith
    go false h = omega arith

module _ (stack : List ℕ) (load : ℤ) where
  first_above : past_above stack 0 load ≡ true
  unfolding past_above
  first_above = refl

  next_above : (n : ℕ) → le_z load (pos (end_of stack n)) ≡ false → past_above stack (suc n) load ≡ true
  unfolding past_above
  next_above n h = past_it (end_of stack n) load h

  in_band_from : (k n : ℕ) → n + k ≡ suc (length stack) → past_above stack n load ≡ true
      → in_band_of stack (n + plate_by (ends_from stack k n) load) load ≡ true
  unfolding ends_from plate_by in_band_of
  in_band_from zero n e p =
      let z : n + 0 ≡ n = omega arith in
      rw (z, p, eq-eqb n (suc (length stack)) (omega arith))
  in_band_from (suc k) n e p = go (le_z load (pos (end_of stack n))) refl (in_band_from k (suc n) (omega arith))
    where
      go : (t : Bool) → le_z load (pos (end_of stack n)) ≡ t
          → (past_above stack (suc n) load ≡ true → in_band_of stack (suc n + plate_by (ends_from stack k (suc n)) load) load ≡ true)
          → in_band_of stack (n + cond t 0 (suc (plate_by (ends_from stack k (suc n)) load))) load ≡ true
      go true h r =
          let z : n + 0 ≡ n = omega arith in
          rw (z, p, h) (or_second (eqb n (suc (length stack))) true refl)
      go false h r =
          let z : n + suc (plate_by (ends_from stack k (suc n)) load) ≡ suc n + plate_by (ends_from stack k (suc n)) load = omega arith in
          rw z (r (next_above n h))

  pub plate_in_its_band : in_band_of stack (plate_on stack load) load ≡ true
  unfolding ends_of
  plate_in_its_band =
      let m : ℕ = suc (length stack) in
      let z : 0 + plate_by (ends_from stack m 0) load ≡ plate_by (ends_from stack m 0) load = omega arith in
      rw z at (in_band_from m 0 (omega arith) first_above)

length_ends : (stack : List ℕ) (k n : ℕ) → length (ends_from stack k n) ≡ k
unfolding ends_from
length_ends stack zero n = refl
length_ends stack (suc k) n = ap suc (length_ends stack k (suc n))

-- "m + 1 ends"
pub ends_many : (stack : List ℕ) → length (ends_of stack) ≡ suc (length stack)
unfolding ends_of
ends_many stack = length_ends stack (suc (length stack)) 0

-- ---- "every load is in exactly one band"

module _ (stack : List ℕ) (ok : is_stack stack ≡ true) (load : ℤ) where
  -- no load lies in a band and in a lower one
  apart : (a b : ℕ) → a ≤ b → b ≤ length stack → in_band_of stack a load ≡ true → in_band_of stack (suc b) load ≡ true → ⊥
  unfolding in_band_of past_above
  apart a b l h p q =
      let n : eqb a (suc (length stack)) ≡ false = ne_eqb a (suc (length stack)) (λ e. omega arith) in
      let up = or_other (eqb a (suc (length stack))) (le_z load (pos (end_of stack a))) n (and_right (past_above stack a load) _ p) in
      let over = and_left (lt_z (pos (end_of stack b)) load) _ q in
      let e : a + (b - a) ≡ b = omega arith in
      let r = rw e at (ends_rise_to stack ok (b - a) a (omega arith)) in
      not_both (end_of stack a) (end_of stack b) load r up over

  ordered : (a b : ℕ) → a < b → b ≤ suc (length stack) → in_band_of stack a load ≡ true → in_band_of stack b load ≡ true → ⊥
  ordered a zero l h p q = omega arith
  ordered a (suc b) l h p q = apart a b (omega arith) (omega arith) p q

  same_band : (a b : ℕ) → a ≤ suc (length stack) → b ≤ suc (length stack) → in_band_of stack a load ≡ true → in_band_of stack b load ≡ true
      → a ≡ b
  same_band a b h k p q = go (ltb a b) refl (ltb b a) refl
    where
      go : (s : Bool) → ltb a b ≡ s → (t : Bool) → ltb b a ≡ t → a ≡ b
      go true e t f = absurd (ordered a b (ltb-true a b e) k p q)
      go false e true f = absurd (ordered b a (ltb-true b a f) h q p)
      go false e false f = omega (arith, ltb-false a b e, ltb-false b a f)

pub record OneBand (stack : List ℕ) (load : ℤ) : Type 0 where
  pub within : plate_on stack load ≤ suc (length stack)
  pub in_it : in_band_of stack (plate_on stack load) load ≡ true
  pub only : (n : ℕ) → n ≤ suc (length stack) → in_band_of stack n load ≡ true → n ≡ plate_on stack load

pub one_band : (stack : List ℕ) → is_stack stack ≡ true → (load : ℤ) → OneBand stack load
one_band stack ok load =
    let w : plate_on stack load ≤ suc (length stack) = omega (arith, plate_within (ends_of stack) load, ends_many stack) in
    let i = plate_in_its_band stack load in
    record {
      within = w;
      in_it = i;
      only = λ n h p. same_band stack ok load n (plate_on stack load) h w p i;
    }
