-- The paper's midpoint rules on naturals that stand above their integers by one offset k: it drops out of every test and sum.
-- Assumes nothing.
use mathlib.Core.Path.{◌≡◌, refl, ap, ap₂, ◌∙◌}
use mathlib.Core.Bool.{Bool, true, false, cond}
use Prim.Native.Nat.{ℕ, zero, suc, ◌+◌, ◌-◌, ◌*◌, ◌/◌, ◌≤◌, ◌<◌, min, max}
use native.Mathlib.Omega.{arith}
use lib.Dec.{ltb, leb}
use lib.IntN.{ℤ, pos, sub_ℕ, ◌+ℤ◌, ◌-ℤ◌}
use lib.Signed.{lt_z, shr_z}
use borrow.Author.Tests.{leb-true, leb-false}
use Rattle.lift.proofs.Differences as D
use Rattle.split.specs.Split.{min_z, max_z, halfway, twice, rule, bring}

min_cond : (a b : ℕ) → min a b ≡ cond (leb a b) a b
min_cond a b = go (leb a b) refl
  where
    go : (t : Bool) → leb a b ≡ t → min a b ≡ cond t a b
    go true e = omega (arith, leb-true a b e)
    go false e = omega (arith, leb-false a b e)

max_cond : (a b : ℕ) → max a b ≡ cond (leb a b) b a
max_cond a b = go (leb a b) refl
  where
    go : (t : Bool) → leb a b ≡ t → max a b ≡ cond t b a
    go true e = omega (arith, leb-true a b e)
    go false e = omega (arith, leb-false a b e)

-- an integer that lies in (x, y] above the offset
pub record Within (k x y : ℕ) (z : ℤ) : Type 0 where
  pub number : ℕ
  pub is : z ≡ sub_ℕ number k
  pub above : x < number
  pub below : number ≤ y

module _ (k : ℕ) where
  -- the integer that n stands for
  abbrev pub of : ℕ → ℤ
  of n = sub_ℕ n k

  cond_of : (t : Bool) (a b : ℕ) → cond t (of a) (of b) ≡ of (cond t a b)
  cond_of true a b = refl
  cond_of false a b = refl

  pub min_of : (a b : ℕ) → min_z (of a) (of b) ≡ of (min a b)
  min_of a b = simp (D.le_offset k, min_cond, cond_of)

  pub max_of : (a b : ℕ) → max_z (of a) (of b) ≡ of (max a b)
  max_of a b = simp (D.le_offset k, max_cond, cond_of)

  pub half_of : (a b : ℕ) → halfway (of a) (of b) ≡ of ((a + b) / 2)
  half_of a b =
      ap (λ z. shr_z z 2) (D.add a k b k ∙ D.same (a + b) (k + k) (a + b) (2 * k) (omega arith))
      ∙ D.down 2 (a + b) k (omega arith)

  pub up_of : (a : ℕ) → of a +ℤ pos 1 ≡ of (a + 1)
  up_of a = D.add a k 1 0 ∙ D.same (a + 1) (k + 0) (a + 1) k (omega arith)

  pub down_of_lem : (a : ℕ) → 0 < a → of a -ℤ pos 1 ≡ of (a - 1)
  down_of_lem a p = D.sub a k 1 0 ∙ D.same (a + 0) (k + 1) (a - 1) k (omega arith)

  twice_of : (a b : ℕ) → twice (of a -ℤ of b) ≡ sub_ℕ (a + a) (b + b)
  twice_of a b =
      ap (λ z. twice z) (D.sub a k b k) ∙ D.add (a + k) (k + b) (a + k) (k + b)
      ∙ D.same (a + k + (a + k)) (k + b + (k + b)) (a + a) (b + b) (omega arith)

  -- 2(h−x) > h−l where 2x < h+l
  pub left_of_lem : (x l h : ℕ) → lt_z (of h -ℤ of l) (twice (of h -ℤ of x)) ≡ ltb (x + x) (h + l)
  left_of_lem x l h = ap₂ lt_z (D.sub h k l k) (twice_of h x) ∙ D.lt (h + k) (k + l) (h + h) (x + x) (x + x) (h + l) (omega arith)

  -- 2(y−l) > h−l where h+l < 2y
  pub right_of : (y l h : ℕ) → lt_z (of h -ℤ of l) (twice (of y -ℤ of l)) ≡ ltb (h + l) (y + y)
  right_of y l h = ap₂ lt_z (D.sub h k l k) (twice_of y l) ∙ D.lt (h + k) (k + l) (y + y) (l + l) (h + l) (y + y) (omega arith)

  -- a case number that is none of 0 to 3
  pub rule_rest : (n x y l h : ℕ) → (n ≡ 0 → ⊥) → (n ≡ 1 → ⊥) → (n ≡ 2 → ⊥) → (n ≡ 3 → ⊥)
      → rule n (of x) (of y) (of l) (of h) ≡ of ((x + y) / 2)
  unfolding rule
  rule_rest zero x y l h p q r s = absurd (p refl)
  rule_rest (suc zero) x y l h p q r s = absurd (q refl)
  rule_rest (suc (suc zero)) x y l h p q r s = absurd (r refl)
  rule_rest (suc (suc (suc zero))) x y l h p q r s = absurd (s refl)
  rule_rest (suc (suc (suc (suc n)))) x y l h p q r s = half_of x y

  -- what is brought into the range (x, y]
  pub bring_none : (m : ℤ) (x y : ℕ) → leb y (x + 1) ≡ true → bring m (of x) (of y) ≡ of y
  unfolding bring
  bring_none m x y e = simp (up_of, D.le_offset k, e)

  pub bring_some : (m x y : ℕ) → leb y (x + 1) ≡ false → bring (of m) (of x) (of y) ≡ of (min (max m (x + 1)) (y - 1))
  unfolding bring
  bring_some m x y e =
      let b = leb-false y (x + 1) e in
      let p : 0 < y = omega arith in
      simp (up_of, down_of_lem, D.le_offset k, min_cond, max_cond, cond_of, e)

  pub bring_within : (m x y : ℕ) → x < y → Within k x y (bring (of m) (of x) (of y))
  bring_within m x y h = go (leb y (x + 1)) refl
    where
      go : (t : Bool) → leb y (x + 1) ≡ t → Within k x y (bring (of m) (of x) (of y))
      go true e = record { number = y; is = bring_none (of m) x y e; above = h; below = omega arith }
      go false e =
          let b = leb-false y (x + 1) e in
          record { number = min (max m (x + 1)) (y - 1); is = bring_some m x y e; above = omega arith; below = omega arith }
