-- Document 01, "Search": a set is "emptied from the lowest bit up".
use Rattle.std.specs.Prelude.{◌≡◌, ◌<◌, MatchOption, Option, Some, None, List, [], ◌∷◌, ℕ}
use Rattle.bitset.specs.Inner.Words.{members, without}
use Rattle.bitset.specs.declared.Bits.{Bits}
use Rattle.bitset.specs.declared.Places.{Places}

-- by the set's places: none, or the lowest with the set without it
abbrev pub next_among : Bits → List ℕ → Option (ℕ × Bits)
next_among b [] = None
next_among b (p ∷ ps) = Some (p, record { words = without b.words p })

unfoldable pub next_of : Bits → Option (ℕ × Bits)
next_of b = next_among b (members b.words)

-- none where the set is empty, or the lowest place and the set without it
abbrev pub IsFirst : Bits → Option (ℕ × Bits) → Type 0
IsFirst b r =
    MatchOption r (members b.words ≡ [])
    (λ f. (members b.words ≡ f.0 ∷ members f.1.words) × (f.1.words ≡ without b.words f.0) × (f.0 < 320))

-- the places that are still to come, lowest first
abbrev pub places_left : Places → List ℕ
places_left s = members s.left.words
