-- A set emptied from the highest place down. Assumes nothing.
use Rattle.std.specs.Prelude.{◌≡◌, MatchOption, Option, List, [], ◌∷◌, ◌++◌, ℕ}
use Rattle.bitset.specs.Inner.Words.{members}
use Rattle.bitset.specs.declared.Bits.{Bits}
use Rattle.last_place.specs.declared.PlacesDown.{PlacesDown}

-- none where the set is empty, or the highest place and the set without it
abbrev pub IsLast : Bits → Option (ℕ × Bits) → Type 0
IsLast b r =
    MatchOption r (members b.words ≡ [])
    (λ l. members b.words ≡ members l.1.words ++ (l.0 ∷ []))

-- the places that are still to come, the highest of them next
abbrev pub places_below : PlacesDown → List ℕ
places_below s = members s.left.words
