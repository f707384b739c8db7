-- Laws of lists: what holds of each of a list, and those of it that pass a test. Assumes nothing.
use mathlib.Core.Path.{◌≡◌, refl, ap}
use mathlib.Core.Bool.{Bool, true, false, cond, ◌&&◌}
use mathlib.Core.List.{List, [], ◌∷◌, ◌++◌, map}
use Prim.Native.Nat.{◌≤◌}
use native.Mathlib.Omega.{arith}
use lib.ListN.{length}
use Rattle.codec.specs.Lists.{chosen, Part, done, taken, passed}

-- ---- of each of a list

abbrev pub AllOf : {A : Type 0} → (A → Type 0) → List A → Type 0
AllOf P [] = Unit {0}
AllOf P (x ∷ xs) = P x × AllOf P xs

pub all_append : {A : Type 0} (P : A → Type 0) (a b : List A) → AllOf P a → AllOf P b → AllOf P (a ++ b)
all_append P [] b p q = q
all_append P (x ∷ a) b p q = (p.0, all_append P a b p.1 q)

-- ---- those that pass a test

module _ {A : Type 0} (f : A → Bool) where
  -- no more than there are, and part by part
  pub chosen_few : (xs : List A) → length (chosen f xs) ≤ length xs
  unfolding chosen
  chosen_few [] = omega arith
  chosen_few (x ∷ xs) = go (f x) (chosen_few xs)
    where
      go : (t : Bool) → length (chosen f xs) ≤ length xs → length (cond t (x ∷ chosen f xs) (chosen f xs)) ≤ length (x ∷ xs)
      go true h = omega arith
      go false h = omega arith

  pub chosen_append : (a b : List A) → chosen f (a ++ b) ≡ chosen f a ++ chosen f b
  unfolding chosen
  chosen_append [] b = refl
  chosen_append (x ∷ a) b = go (f x) (chosen_append a b)
    where
      go : (t : Bool) → chosen f (a ++ b) ≡ chosen f a ++ chosen f b
          → cond t (x ∷ chosen f (a ++ b)) (chosen f (a ++ b)) ≡ cond t (x ∷ chosen f a) (chosen f a) ++ chosen f b
      go true e = ap (λ (l : List A). x ∷ l) e
      go false e = e

  pub chosen_part : (xs : List A) → Part (chosen f xs) xs
  unfolding chosen
  chosen_part [] = done
  chosen_part (x ∷ xs) = go (f x) (chosen_part xs)
    where
      go : (t : Bool) → Part (chosen f xs) xs → Part (cond t (x ∷ chosen f xs) (chosen f xs)) (x ∷ xs)
      go true p = taken refl p
      go false p = passed p

  pub chosen_all : (xs : List A) → AllOf (λ x. f x ≡ true) xs → chosen f xs ≡ xs
  unfolding chosen
  chosen_all [] all = refl
  chosen_all (x ∷ xs) all = rw (all.0, chosen_all xs all.1)

  -- two tests that agree
  pub chosen_same : (g : A → Bool) → ((x : A) → f x ≡ g x) → (xs : List A) → chosen f xs ≡ chosen g xs
  unfolding chosen
  chosen_same g same [] = refl
  chosen_same g same (x ∷ xs) = rw (same x, chosen_same g same xs)

  -- a choice from a choice
  pub chosen_twice : (g : A → Bool) (xs : List A) → chosen f (chosen g xs) ≡ chosen (λ x. g x && f x) xs
  unfolding chosen
  chosen_twice g [] = refl
  chosen_twice g (x ∷ xs) = go (g x) (f x) refl (chosen_twice g xs)
    where
      go : (a b : Bool) → f x ≡ b → chosen f (chosen g xs) ≡ chosen (λ y. g y && f y) xs
          → chosen f (cond a (x ∷ chosen g xs) (chosen g xs))
          ≡ cond (a && b) (x ∷ chosen (λ y. g y && f y) xs) (chosen (λ y. g y && f y) xs)
      go true true e ih = rw (e, ih)
      go true false e ih = rw (e, ih)
      go false b e ih = ih

pub chosen_map : {A B : Type 0} (f : B → Bool) (h : A → B) (xs : List A) → chosen f (map h xs) ≡ map h (chosen (λ x. f (h x)) xs)
unfolding chosen
chosen_map f h [] = refl
chosen_map {B = B} f h (x ∷ xs) = go (f (h x)) (chosen_map f h xs)
  where
    go : (t : Bool) → chosen f (map h xs) ≡ map h (chosen (λ y. f (h y)) xs)
        → cond t (h x ∷ chosen f (map h xs)) (chosen f (map h xs)) ≡ map h (cond t (x ∷ chosen (λ y. f (h y)) xs) (chosen (λ y. f (h y)) xs))
    go true e = ap {B = List B} (λ l. h x ∷ l) e
    go false e = e
