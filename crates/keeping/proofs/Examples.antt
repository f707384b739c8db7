-- By computation, worked out by hand: where the grounds of the counts stand among those of the plain call. Assumes nothing.
use mathlib.Core.Path.{◌≡◌, refl}
use mathlib.Core.Bool.{true, false}
use mathlib.Core.List.{List, [], ◌∷◌, map}
use Prim.Native.Nat.{ℕ}
use Rattle.bounds.specs.Grounds.{sooner}
use Rattle.keeping.specs.Keeping.{with_ground}

-- the plain call's number: none of its grounds holds, or the first is this one
abbrev numbers : List ℕ
numbers = 0 ∷ 1 ∷ 2 ∷ 3 ∷ 4 ∷ 5 ∷ 7 ∷ 8 ∷ 9 ∷ 10 ∷ 11 ∷ []

pub grounds_in_turn : (map (with_ground 3 true) numbers ≡ 3 ∷ 1 ∷ 2 ∷ 3 ∷ 3 ∷ 3 ∷ 3 ∷ 3 ∷ 3 ∷ 3 ∷ 3 ∷ [])
    × (map (with_ground 10 true) numbers ≡ 10 ∷ 1 ∷ 2 ∷ 3 ∷ 4 ∷ 5 ∷ 7 ∷ 8 ∷ 9 ∷ 10 ∷ 10 ∷ [])
    × (map (with_ground 3 false) numbers ≡ numbers) × (map (with_ground 10 false) numbers ≡ numbers)
unfolding sooner
grounds_in_turn = (refl, refl, refl, refl)
