-- Lifts with their places: the places rise, and without them the pairs are those of the two lists. Assumes nothing.
use mathlib.Core.Path.{◌≡◌, refl, ap, ap₂, ◌∙◌}
use mathlib.Core.Bool.{Bool, true, false, cond}
use mathlib.Core.Option.{Option, none, some}
use mathlib.Core.List.{List, [], ◌∷◌, ◌++◌, map}
use Prim.Native.Nat.{ℕ, suc}
use native.Mathlib.Omega.{arith}
use Rattle.supersets.specs.Pairs.{first_fit, without_fit, pair_with, pairs_of}
use Rattle.supersets.specs.Places.{Placed, Rises, placed, places_of, fits_at, unplaced}

module _ {A : Type 0} where
  pub placed_rises : (n : ℕ) (ls : List A) → Rises n (places_of (placed n ls))
  unfolding placed
  placed_rises n [] = tt
  placed_rises n (a ∷ rest) = (omega arith, placed_rises (suc n) rest)

  -- the lifts alone
  abbrev lifts_of : List (Placed A) → List A
  lifts_of xs = map (λ x. x.1) xs

  pub lifts_placed : (n : ℕ) (ls : List A) → map (λ x. x.1) (placed n ls) ≡ ls
  unfolding placed
  lifts_placed n [] = refl
  lifts_placed n (a ∷ rest) = ap {B = List A} (λ l. a ∷ l) (lifts_placed (suc n) rest)

  module _ (fits : A → A → Bool) where
    abbrev forgot : List (Placed A × Placed A) → List (A × A)
    forgot ps = map unplaced ps

    fit_forgot : (x : Placed A) (ys : List (Placed A))
        → forgot (pair_with (fits_at fits) x (first_fit (fits_at fits) x ys)) ≡ pair_with fits x.1 (first_fit fits x.1 (lifts_of ys))
    unfolding first_fit
    fit_forgot x [] = refl
    fit_forgot x (y ∷ ys) = go (fits x.1 y.1) (fit_forgot x ys)
      where
        go : (t : Bool)
            → forgot (pair_with (fits_at fits) x (first_fit (fits_at fits) x ys)) ≡ pair_with fits x.1 (first_fit fits x.1 (lifts_of ys))
            → forgot (pair_with (fits_at fits) x (cond t (some y) (first_fit (fits_at fits) x ys)))
            ≡ pair_with fits x.1 (cond t (some y.1) (first_fit fits x.1 (lifts_of ys)))
        go true ih = refl
        go false ih = ih

    without_forgot : (x : Placed A) (ys : List (Placed A)) → lifts_of (without_fit (fits_at fits) x ys) ≡ without_fit fits x.1 (lifts_of ys)
    unfolding without_fit
    without_forgot x [] = refl
    without_forgot x (y ∷ ys) = go (fits x.1 y.1) (without_forgot x ys)
      where
        go : (t : Bool) → lifts_of (without_fit (fits_at fits) x ys) ≡ without_fit fits x.1 (lifts_of ys)
            → lifts_of (cond t ys (y ∷ without_fit (fits_at fits) x ys)) ≡ cond t (lifts_of ys) (y.1 ∷ without_fit fits x.1 (lifts_of ys))
        go true ih = refl
        go false ih = ap {B = List A} (λ l. y.1 ∷ l) ih

    pub pairs_forgot : (xs ys : List (Placed A))
        → map unplaced (pairs_of (fits_at fits) xs ys) ≡ pairs_of fits (map (λ x. x.1) xs) (map (λ y. y.1) ys)
    unfolding pairs_of
    pairs_forgot [] ys = refl
    pairs_forgot (x ∷ xs) ys =
        split (first_fit (fits_at fits) x ys) (pairs_of (fits_at fits) xs (without_fit (fits_at fits) x ys))
        ∙ ap₂ {C = List (A × A)} (λ a b. a ++ b) (fit_forgot x ys)
        (pairs_forgot xs (without_fit (fits_at fits) x ys) ∙ ap (pairs_of fits (lifts_of xs)) (without_forgot x ys))
      where
        split : (o : Option (Placed A)) (rest : List (Placed A × Placed A))
            → forgot (pair_with (fits_at fits) x o ++ rest) ≡ forgot (pair_with (fits_at fits) x o) ++ forgot rest
        split none rest = refl
        split (some y) rest = refl
