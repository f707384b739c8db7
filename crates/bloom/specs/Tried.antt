-- The Bloom bits that a search tries for a load, and the Bloom pages that hold them (document 02, W-207). Assumes nothing.
use Rattle.std.specs.Prelude.{Bool, cond, List, [], ◌∷◌, map, ℕ, ◌-◌, ◌/◌, length}
use Rattle.bitset.specs.Set.{distinct}
use Rattle.bloom.specs.Bloom.{bloom_bit, some_set}
use Rattle.bloom.specs.Pages.{fragment_length}

-- a load's three bits, "in the order of document 01"
abbrev pub bits_of : ℕ → List ℕ
bits_of code = bloom_bit 0 (code - 1) ∷ bloom_bit 1 (code - 1) ∷ bloom_bit 2 (code - 1) ∷ []

-- "up to the first that is clear in all sections", that one included
unfoldable pub tried_of : (ℕ → Bool) → List ℕ → List ℕ
tried_of set [] = []
tried_of set (b ∷ bs) = b ∷ cond (set b) (tried_of set bs) []

abbrev pub bits_tried : List (List ℕ) → ℕ → List ℕ
bits_tried ss code = tried_of (some_set ss) (bits_of code)

-- the Bloom page, 0 or 1, that holds bit b of each section: "Bloom page i holds bytes iL to iL+L−1 of each section"
abbrev pub bit_page : ℕ → ℕ → ℕ
bit_page L b = b / 8 / L

-- "the distinct Bloom .. pages that hold a bit tried"
unfoldable pub pages_tried : List (List ℕ) → ℕ → ℕ
pages_tried ss code = distinct (map (bit_page (fragment_length (length ss))) (bits_tried ss code))
