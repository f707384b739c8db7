-- Lists of anything: those of a list that pass a test, and a list that is part of another. Assumes nothing.
use Rattle.std.specs.Prelude.{◌≡◌, Bool, cond, List, [], ◌∷◌}

module _ {A : Type 0} where
  -- those that pass a test, in their order
  unfoldable pub chosen : (A → Bool) → List A → List A
  chosen f [] = []
  chosen f (x ∷ xs) = cond (f x) (x ∷ chosen f xs) (chosen f xs)

  -- the first list is part of the second, in the second's order: each of the second, in turn, is taken or passed over
  pub data Part : List A → List A → Type 0 where
    done : {ys : List A} → Part [] ys
    taken : {x y : A} {xs ys : List A} → x ≡ y → Part xs ys → Part (x ∷ xs) (y ∷ ys)
    passed : {y : A} {xs ys : List A} → Part xs ys → Part xs (y ∷ ys)
