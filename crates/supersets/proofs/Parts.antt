-- Laws of "part of a list, in its order": by induction on the way in which the one is part of the other. Assumes nothing.
use mathlib.Core.Path.{◌≡◌, refl, ap, ◌∙◌}
use mathlib.Core.Logic.{◌⊎◌, inl, inr}
use mathlib.Core.List.{List, [], ◌∷◌, map}
use Rattle.codec.specs.Lists.{Part, done, taken, passed}
use Rattle.supersets.specs.Places.{OneOf}

module _ {A : Type 0} where
  pub part_all : (xs : List A) → Part xs xs
  part_all [] = done
  part_all (x ∷ xs) = taken refl (part_all xs)

  of_nothing : {xs zs : List A} → Part xs [] → Part xs zs
  of_nothing done = done

  -- a part of a part
  pub part_trans : {xs ys zs : List A} → Part ys zs → Part xs ys → Part xs zs
  part_trans done p = of_nothing p
  part_trans (taken e q) done = done
  part_trans (taken e q) (taken {xs = xs} d p) = taken (d ∙ e) (part_trans {xs = xs} q p)
  part_trans (taken e q) (passed {xs = xs} p) = passed (part_trans {xs = xs} q p)
  part_trans {xs = xs} (passed q) p = passed (part_trans {xs = xs} q p)

  pub part_map : {B : Type 0} (f : A → B) {xs ys : List A} → Part xs ys → Part (map f xs) (map f ys)
  part_map f done = done
  part_map f (taken e p) = taken (ap f e) (part_map f p)
  part_map f (passed p) = passed (part_map f p)

  -- ---- one of a list

  pub one_of_none : {a : A} → OneOf a [] → ⊥
  one_of_none p = elim p [ ]

  pub one_cases : {a x : A} {xs : List A} → OneOf a (x ∷ xs) → (a ≡ x) ⊎ OneOf a xs
  one_cases (taken e p) = inl e
  one_cases (passed p) = inr p
