-- A number stands in a list exactly where some place of the list has it.
use mathlib.Core.Path.{◌≡◌, refl, sym}
use mathlib.Core.Bool.{Bool, true, false, ◌||◌}
use mathlib.Core.List.{List, [], ◌∷◌}
use Prim.Native.Nat.{ℕ, zero, suc, ◌<◌}
use native.Mathlib.Omega.{arith}
use lib.Dec.{eqb}
use lib.ListN.{length, get_or}
use borrow.Author.Tests.{eqb-true, eq-eqb}
use Rattle.bitset.specs.Set.{elem}

pub elem_at : (l : List ℕ) (i : ℕ) → i < length l → elem (get_or l i 0) l ≡ true
unfolding elem
elem_at [] i h = absurd (omega arith)
elem_at (x ∷ l) zero h = rw (eq-eqb x x refl)
elem_at (x ∷ l) (suc i) h = later (eqb (get_or l i 0) x) (elem_at l i (omega arith))
  where
    later : (b : Bool) → elem (get_or l i 0) l ≡ true → (b || elem (get_or l i 0) l) ≡ true
    later true e = refl
    later false e = e

-- the place of a number that stands in a list
pub record Stands (x : ℕ) (l : List ℕ) : Type 0 where
  pub at : ℕ
  pub inside : at < length l
  pub is : get_or l at 0 ≡ x

pub elem_stands : (x : ℕ) (l : List ℕ) → elem x l ≡ true → Stands x l
unfolding elem
elem_stands x [] e = let z : ◌≡◌ {A = ℕ} 0 1 = cc in absurd (omega arith)
elem_stands x (y ∷ l) e = go (eqb x y) refl e (elem_stands x l)
  where
    go : (b : Bool) → eqb x y ≡ b → (b || elem x l) ≡ true → (elem x l ≡ true → Stands x l) → Stands x (y ∷ l)
    go true t e ih = record { at = 0; inside = omega arith; is = sym (eqb-true x y t) }
    go false t e ih = let s = ih e in record { at = suc s.at; inside = omega (arith, s.inside); is = s.is }
