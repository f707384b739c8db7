-- The numbers of a range that a test picks: equal tests, ranges in a row, the first one, their order. By induction on the range.
use mathlib.Core.Path.{◌≡◌, refl, ap, ◌∙◌}
use mathlib.Core.Bool.{Bool, true, false, cond, not, ◌&&◌}
use mathlib.Core.List.{List, [], ◌∷◌, ◌++◌}
use Prim.Native.Nat.{ℕ, zero, suc, ◌+◌, ◌-◌, ◌≤◌, ◌<◌}
use native.Mathlib.Omega.{arith}
use lib.Dec.{eqb}
use lib.ListN.{length, get_or}
use borrow.Author.Tests.{eq-eqb, ne_eqb}
use Rattle.bitset.specs.Set.{picked}

pub picked_same : (f g : ℕ → Bool) (from n : ℕ) → ((p : ℕ) → from ≤ p → p < from + n → f p ≡ g p)
    → picked f from n ≡ picked g from n
unfolding picked
picked_same f g from zero h = refl
picked_same f g from (suc n) h =
    rw (h from (omega arith) (omega arith), picked_same f g (suc from) n (λ p a b. h p (omega arith) (omega arith)))

pub picked_none : (f : ℕ → Bool) (from n : ℕ) → ((p : ℕ) → from ≤ p → p < from + n → f p ≡ false) → picked f from n ≡ []
unfolding picked
picked_none f from zero h = refl
picked_none f from (suc n) h =
    rw (h from (omega arith) (omega arith), picked_none f (suc from) n (λ p a b. h p (omega arith) (omega arith)))

cond_append : (b : Bool) (p : ℕ) (l t : List ℕ) → cond b (p ∷ l) l ++ t ≡ cond b (p ∷ (l ++ t)) (l ++ t)
cond_append true p l t = refl
cond_append false p l t = refl

pub picked_append : (f : ℕ → Bool) (from m n : ℕ) → picked f from (m + n) ≡ picked f from m ++ picked f (from + m) n
unfolding picked
picked_append f from zero n =
    let a : 0 + n ≡ n = omega arith in
    let b : from + 0 ≡ from = omega arith in
    rw (a, b)
picked_append f from (suc m) n =
    let a : suc m + n ≡ suc (m + n) = omega arith in
    let b : from + suc m ≡ suc from + m = omega arith in
    rw (a, b, cond_append, picked_append f (suc from) m n)

-- the first one that is picked, and the rest
pub picked_first : (f : ℕ → Bool) (from d n : ℕ) → ((p : ℕ) → from ≤ p → p < from + d → f p ≡ false) → f (from + d) ≡ true
    → picked f from (d + suc n) ≡ (from + d) ∷ picked f (suc (from + d)) n
unfolding picked
picked_first f from zero n h t =
    let a : 0 + suc n ≡ suc n = omega arith in
    let b : from + 0 ≡ from = omega arith in
    rw (a, rw b at t, b)
picked_first f from (suc d) n h t =
    let a : suc d + suc n ≡ suc (d + suc n) = omega arith in
    let b : from + suc d ≡ suc from + d = omega arith in
    rw (a, h from (omega arith) (omega arith), b)
    (picked_first f (suc from) d n (λ p l u. h p (omega arith) (omega arith)) (rw b at t))

-- ---- what is picked lies in the range, passes the test, and rises
pub record Within (f : ℕ → Bool) (from to : ℕ) (l : List ℕ) : Type 0 where
  pub low : (i : ℕ) → i < length l → from ≤ get_or l i 0
  pub high : (i : ℕ) → i < length l → get_or l i 0 < to
  pub passes : (i : ℕ) → i < length l → f (get_or l i 0) ≡ true
  pub rises : (i j : ℕ) → i < j → j < length l → get_or l i 0 < get_or l j 0
  pub size : length l ≤ to - from

pub picked_within : (f : ℕ → Bool) (from n : ℕ) → Within f from (from + n) (picked f from n)
unfolding picked
picked_within f from zero = record {
  low = λ i h. absurd (omega arith);
  high = λ i h. absurd (omega arith);
  passes = λ i h. absurd (omega arith);
  rises = λ i j l h. absurd (omega arith);
  size = omega arith;
}
picked_within f from (suc n) = go (f from) refl (picked f (suc from) n) (picked_within f (suc from) n)
  where
    add : (l : List ℕ) → f from ≡ true → Within f (suc from) (suc from + n) l → Within f from (from + suc n) (from ∷ l)
    add l t w = record {
      low = elim [ zero ↦ λ h. omega arith | suc i ↦ λ h. omega (arith, w.low i (omega arith)) ];
      high = elim [ zero ↦ λ h. omega arith | suc i ↦ λ h. omega (arith, w.high i (omega arith)) ];
      passes = elim [ zero ↦ λ h. t | suc i ↦ λ h. w.passes i (omega arith) ];
      rises = elim [
        | zero ↦ elim [ zero ↦ λ l h. absurd (omega arith) | suc j ↦ λ l h. omega (arith, w.low j (omega arith)) ]
        | suc i ↦ elim [ zero ↦ λ l h. absurd (omega arith) | suc j ↦ λ l h. w.rises i j (omega arith) (omega arith) ]
      ];
      size = omega (arith, w.size);
    }

    go : (b : Bool) → f from ≡ b → (l : List ℕ) → Within f (suc from) (suc from + n) l
        → Within f from (from + suc n) (cond b (from ∷ l) l)
    go true e l w = add l e w
    go false e l w = record {
      low = λ i h. omega (arith, w.low i h);
      high = λ i h. omega (arith, w.high i h);
      passes = w.passes;
      rises = w.rises;
      size = omega (arith, w.size);
    }

-- ---- one that is picked, and those without it

pub record Picks (f : ℕ → Bool) (from n p : ℕ) : Type 0 where
  pub low : from ≤ p
  pub high : p < from + n
  pub passes : f p ≡ true

module _ (f : ℕ → Bool) (p : ℕ) (ys : List ℕ) where
  pub picks : (from n : ℕ) (xs : List ℕ) → picked f from n ≡ xs ++ (p ∷ ys) → Picks f from n p
  unfolding picked
  picks from zero [] e = absurd (omega (arith, ap length e))
  picks from zero (x ∷ xs) e = absurd (omega (arith, ap length e))
  picks from (suc n) xs e = go (f from) refl xs e (picks (suc from) n)
    where
      later : Picks f (suc from) n p → Picks f from (suc n) p
      later h = record { low = omega (arith, h.low); high = omega (arith, h.high); passes = h.passes }

      go : (b : Bool) → f from ≡ b → (xs : List ℕ) → cond b (from ∷ picked f (suc from) n) (picked f (suc from) n) ≡ xs ++ (p ∷ ys)
          → ((zs : List ℕ) → picked f (suc from) n ≡ zs ++ (p ∷ ys) → Picks f (suc from) n p) → Picks f from (suc n) p
      go true t [] e ih = let s : from ≡ p = cc in record { low = omega arith; high = omega arith; passes = rw (← s) t }
      go true t (x ∷ xs) e ih = let r : picked f (suc from) n ≡ xs ++ (p ∷ ys) = cc in later (ih xs r)
      go false t xs e ih = later (ih xs e)

  -- the places before it and those behind it are left
  pub picked_out : (from n : ℕ) (xs : List ℕ) → picked f from n ≡ xs ++ (p ∷ ys)
      → picked (λ q. not (eqb q p) && f q) from n ≡ xs ++ ys
  unfolding picked
  picked_out from zero [] e = cc
  picked_out from zero (x ∷ xs) e = cc
  picked_out from (suc n) xs e = go (f from) refl xs e (picked_out (suc from) n)
    where
      g : ℕ → Bool
      g q = not (eqb q p) && f q

      go : (b : Bool) → f from ≡ b → (xs : List ℕ) → cond b (from ∷ picked f (suc from) n) (picked f (suc from) n) ≡ xs ++ (p ∷ ys)
          → ((zs : List ℕ) → picked f (suc from) n ≡ zs ++ (p ∷ ys) → picked g (suc from) n ≡ zs ++ ys)
          → cond (not (eqb from p) && f from) (from ∷ picked g (suc from) n) (picked g (suc from) n) ≡ xs ++ ys
      go true t [] e ih =
          let s : from ≡ p = cc in
          let r : picked f (suc from) n ≡ ys = cc in
          rw (eq-eqb from p s) (picked_same g f (suc from) n (λ q a u. rw (ne_eqb q p (omega arith))) ∙ r)
      go true t (x ∷ xs) e ih =
          let s : from ≡ x = cc in
          let r : picked f (suc from) n ≡ xs ++ (p ∷ ys) = cc in
          let h = picks (suc from) n xs r in
          rw (ne_eqb from p (λ i. absurd (omega (arith, h.low))), t, ih xs r, s)
      go false t xs e ih =
          let h = picks (suc from) n xs e in
          rw (ne_eqb from p (λ i. absurd (omega (arith, h.low))), t) (ih xs e)
