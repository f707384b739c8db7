-- The pairs of two lists with the place of each lift, and the words in which proofs/Theorems says what they are (document 02, W-208).
-- Lifts may be equal, so a lift is told from others by its place. Assumes nothing.
use Rattle.std.specs.Prelude.{◌≡◌, Bool, false, cond, List, [], ◌∷◌, map, ℕ, suc, ◌≤◌}
use Rattle.codec.specs.Lists.{Part}
use Rattle.bitset.specs.Set.{elem}
use Rattle.supersets.specs.Pairs.{pairs_of}

-- ---- numbers

-- no number stands twice
abbrev pub NoTwice : List ℕ → Type 0
NoTwice [] = Unit {0}
NoTwice (n ∷ ns) = (elem n ns ≡ false) × NoTwice ns

-- the first number is n or above, each other one above the one before it
abbrev pub Rises : ℕ → List ℕ → Type 0
Rises n [] = Unit {0}
Rises n (m ∷ ms) = (n ≤ m) × Rises (suc m) ms

-- ---- any list

-- a lift with its place
abbrev pub Placed : Type 0 → Type 0
Placed A = ℕ × A

module _ {A : Type 0} where
  -- x is one of the list
  abbrev pub OneOf : A → List A → Type 0
  OneOf x xs = Part (x ∷ []) xs

  -- each lift with its place, from n on
  unfoldable pub placed : ℕ → List A → List (Placed A)
  placed n [] = []
  placed n (a ∷ rest) = (n, a) ∷ placed (suc n) rest

  -- their places
  abbrev pub places_of : List (Placed A) → List ℕ
  places_of xs = map (λ x. x.0) xs

  -- ---- two lists

  -- whether two lifts fit, whatever their places
  abbrev pub fits_at : (A → A → Bool) → Placed A → Placed A → Bool
  fits_at fits x y = fits x.1 y.1

  -- the pairs, each lift with its place
  abbrev pub pairs_at : (A → A → Bool) → List A → List A → List (Placed A × Placed A)
  pairs_at fits first second = pairs_of (fits_at fits) (placed 0 first) (placed 0 second)

  -- a pair without the places
  abbrev pub unplaced : Placed A × Placed A → A × A
  unplaced p = (p.0.1, p.1.1)

  -- the lifts of the first list that are in pairs, and those of the second
  abbrev pub firsts : List (Placed A × Placed A) → List (Placed A)
  firsts pairs = map (λ p. p.0) pairs

  abbrev pub seconds : List (Placed A × Placed A) → List (Placed A)
  seconds pairs = map (λ p. p.1) pairs

  -- those of the second list that are in none of the pairs
  unfoldable pub unused_by : List (Placed A × Placed A) → List (Placed A) → List (Placed A)
  unused_by pairs [] = []
  unused_by pairs (b ∷ bs) = cond (elem b.0 (places_of (seconds pairs))) (unused_by pairs bs) (b ∷ unused_by pairs bs)
