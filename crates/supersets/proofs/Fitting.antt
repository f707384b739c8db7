-- The first of a list that fits, and the list without it; over any list and any test. By induction on the list. Assumes nothing.
use mathlib.Core.Path.{◌≡◌, refl, ap, ◌∙◌}
use mathlib.Core.Bool.{Bool, true, false, cond}
use mathlib.Core.Logic.{◌⊎◌, inl, inr}
use mathlib.Core.Option.{Option, none, some}
use mathlib.Core.List.{List, [], ◌∷◌, ◌++◌, map}
use Prim.Native.Nat.{ℕ}
use native.Mathlib.Omega.{arith}
use Rattle.supersets.specs.Pairs.{first_fit, without_fit, pair_with, pairs_of}
use Rattle.codec.specs.Lists.{Part, done, taken, passed}
use Rattle.supersets.specs.Places.{OneOf}
use Rattle.supersets.proofs.Parts.{part_all, one_of_none, one_cases}

module _ {A : Type 0} (fits : A → A → Bool) (a : A) where
  -- the one that is found fits, and is one of the list
  pub found_fits : (bs : List A) (b : A) → first_fit fits a bs ≡ some b → fits a b ≡ true
  unfolding first_fit
  found_fits [] b e = let z : ◌≡◌ {A = ℕ} 0 1 = cc in absurd (omega arith)
  found_fits (c ∷ bs) b e = go (fits a c) refl e (found_fits bs b)
    where
      go : (t : Bool) → fits a c ≡ t → cond t (some c) (first_fit fits a bs) ≡ some b → (first_fit fits a bs ≡ some b → fits a b ≡ true)
          → fits a b ≡ true
      go true d e ih = cc
      go false d e ih = ih e

  pub found_one : (bs : List A) (b : A) → first_fit fits a bs ≡ some b → OneOf b bs
  unfolding first_fit
  found_one [] b e = let z : ◌≡◌ {A = ℕ} 0 1 = cc in absurd (omega arith)
  found_one (c ∷ bs) b e = go (fits a c) e (found_one bs b)
    where
      go : (t : Bool) → cond t (some c) (first_fit fits a bs) ≡ some b → (first_fit fits a bs ≡ some b → OneOf b bs) → OneOf b (c ∷ bs)
      go true e ih = let same : b ≡ c = cc in taken same done
      go false e ih = passed (ih e)

  -- what is left is part of the list
  pub without_part : (bs : List A) → Part (without_fit fits a bs) bs
  unfolding without_fit
  without_part [] = done
  without_part (c ∷ bs) = go (fits a c) (without_part bs)
    where
      go : (t : Bool) → Part (without_fit fits a bs) bs → Part (cond t bs (c ∷ without_fit fits a bs)) (c ∷ bs)
      go true ih = passed (part_all bs)
      go false ih = taken refl ih

  -- where none is found, none fits, and the list is left as it was
  pub none_fits : (bs : List A) → first_fit fits a bs ≡ none → (b : A) → OneOf b bs → fits a b ≡ false
  unfolding first_fit
  none_fits [] e b i = absurd (one_of_none i)
  none_fits (c ∷ bs) e b i = go (fits a c) refl e (one_cases i) (λ f. none_fits bs f b)
    where
      go : (t : Bool) → fits a c ≡ t → cond t (some c) (first_fit fits a bs) ≡ none → (b ≡ c) ⊎ OneOf b bs
          → (first_fit fits a bs ≡ none → OneOf b bs → fits a b ≡ false) → fits a b ≡ false
      go true d e i ih = let z : ◌≡◌ {A = ℕ} 0 1 = cc in absurd (omega arith)
      go false d e (inl s) ih = ap (fits a) s ∙ d
      go false d e (inr i) ih = ih e i

  pub without_none : (bs : List A) → first_fit fits a bs ≡ none → without_fit fits a bs ≡ bs
  unfolding first_fit without_fit
  without_none [] e = refl
  without_none (c ∷ bs) e = go (fits a c) e (without_none bs)
    where
      go : (t : Bool) → cond t (some c) (first_fit fits a bs) ≡ none → (first_fit fits a bs ≡ none → without_fit fits a bs ≡ bs)
          → cond t bs (c ∷ without_fit fits a bs) ≡ c ∷ bs
      go true e ih = let z : ◌≡◌ {A = ℕ} 0 1 = cc in absurd (omega arith)
      go false e ih = ap {B = List A} (λ l. c ∷ l) (ih e)

-- the firsts of the pairs are part of the first list, in its order
pub firsts_part : {A : Type 0} (fits : A → A → Bool) (xs bs : List A) → Part (map (λ p. p.0) (pairs_of fits xs bs)) xs
unfolding pairs_of
firsts_part fits [] bs = done
firsts_part {A} fits (a ∷ rest) bs = go (first_fit fits a bs) (firsts_part fits rest (without_fit fits a bs))
  where
    go : (o : Option A) → Part (map (λ p. p.0) (pairs_of fits rest (without_fit fits a bs))) rest
        → Part (map (λ p. p.0) (pair_with fits a o ++ pairs_of fits rest (without_fit fits a bs))) (a ∷ rest)
    go none ih = passed ih
    go (some b) ih = taken refl ih
