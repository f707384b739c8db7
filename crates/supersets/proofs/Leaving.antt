-- Lifts of the second list that fit none of the first may be left out: the pairs stay the same. Assumes nothing.
use mathlib.Core.Path.{◌≡◌, refl, sym, ap, ap₂, ◌∙◌}
use mathlib.Core.Bool.{Bool, true, false, cond, ◌||◌}
use mathlib.Core.Option.{some}
use mathlib.Core.List.{List, [], ◌∷◌, ◌++◌}
use Rattle.codec.specs.Lists.{chosen}
use Rattle.codec.proofs.Truth.{or_second}
use Rattle.supersets.specs.Pairs.{first_fit, without_fit, pair_with, pairs_of}

-- a narrower test, behind a wider one
keep_twice : {A : Type 0} (f g : A → Bool) → ((b : A) → g b ≡ true → f b ≡ true) → (bs : List A) → chosen g (chosen f bs) ≡ chosen g bs
unfolding chosen
keep_twice f g h [] = refl
keep_twice f g h (b ∷ bs) = go (f b) refl (g b) refl (keep_twice f g h bs)
  where
    go : (x : Bool) → f b ≡ x → (y : Bool) → g b ≡ y → chosen g (chosen f bs) ≡ chosen g bs
        → chosen g (cond x (b ∷ chosen f bs) (chosen f bs)) ≡ cond y (b ∷ chosen g bs) (chosen g bs)
    go true e true d ih = rw (d, ih)
    go true e false d ih = rw d ih
    go false e true d ih = let z : true ≡ false = sym (h b d) ∙ e in cc
    go false e false d ih = ih

module _ {A : Type 0} (fits : A → A → Bool) where
  -- whether a lift fits one of a list
  unfoldable pub fits_any : List A → A → Bool
  fits_any [] b = false
  fits_any (a ∷ rest) b = fits a b || fits_any rest b

  module _ (a : A) (f : A → Bool) (all : (b : A) → fits a b ≡ true → f b ≡ true) where
    first_kept : (bs : List A) → first_fit fits a (chosen f bs) ≡ first_fit fits a bs
    unfolding chosen first_fit
    first_kept [] = refl
    first_kept (b ∷ bs) = go (f b) refl (fits a b) refl (first_kept bs)
      where
        go : (x : Bool) → f b ≡ x → (y : Bool) → fits a b ≡ y → first_fit fits a (chosen f bs) ≡ first_fit fits a bs
            → first_fit fits a (cond x (b ∷ chosen f bs) (chosen f bs)) ≡ cond y (some b) (first_fit fits a bs)
        go true e true d ih = rw d
        go true e false d ih = rw d ih
        go false e true d ih = let z : true ≡ false = sym (all b d) ∙ e in cc
        go false e false d ih = ih

    module _ (g : A → Bool) (narrow : (b : A) → g b ≡ true → f b ≡ true) where
      without_kept : (bs : List A) → chosen g (without_fit fits a (chosen f bs)) ≡ chosen g (without_fit fits a bs)
      unfolding chosen without_fit
      without_kept [] = refl
      without_kept (b ∷ bs) = go (f b) refl (fits a b) refl (g b) refl (without_kept bs)
        where
          go : (x : Bool) → f b ≡ x → (y : Bool) → fits a b ≡ y → (z : Bool) → g b ≡ z
              → chosen g (without_fit fits a (chosen f bs)) ≡ chosen g (without_fit fits a bs)
              → chosen g (without_fit fits a (cond x (b ∷ chosen f bs) (chosen f bs)))
              ≡ chosen g (cond y bs (b ∷ without_fit fits a bs))
          go true e true d z s ih = rw d (keep_twice f g narrow bs)
          go true e false d true s ih = rw (d, s, ih)
          go true e false d false s ih = rw (d, s, ih)
          go false e true d z s ih = let w : true ≡ false = sym (all b d) ∙ e in cc
          go false e false d true s ih = let w : true ≡ false = sym (narrow b s) ∙ e in cc
          go false e false d false s ih = rw (s, ih)

  -- only those that fit one of the first list count
  pub kept_pairs : (first bs : List A) → pairs_of fits first (chosen (fits_any first) bs) ≡ pairs_of fits first bs
  unfolding pairs_of fits_any
  kept_pairs [] bs = refl
  kept_pairs (a ∷ rest) bs =
      ap₂ ◌++◌ (ap (pair_with fits a) (first_kept a (fits_any (a ∷ rest)) own bs))
      (sym (kept_pairs rest (without_fit fits a (chosen (fits_any (a ∷ rest)) bs)))
      ∙ ap (pairs_of fits rest) (without_kept a (fits_any (a ∷ rest)) own (fits_any rest) others bs)
      ∙ kept_pairs rest (without_fit fits a bs))
    where
      own : (b : A) → fits a b ≡ true → fits_any (a ∷ rest) b ≡ true
      own b e = rw e

      others : (b : A) → fits_any rest b ≡ true → fits_any (a ∷ rest) b ≡ true
      others b e = or_second (fits a b) (fits_any rest b) e

  pub same_pairs : (first xs ys : List A) → chosen (fits_any first) xs ≡ chosen (fits_any first) ys → pairs_of fits first xs ≡ pairs_of fits first ys
  same_pairs first xs ys e = sym (kept_pairs first xs) ∙ ap (pairs_of fits first) e ∙ kept_pairs first ys
