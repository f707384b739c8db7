-- Stored numbers are little-endian (document 01, "Chips and slots"). Assumes nothing.
use Rattle.std.specs.Prelude.{List, [], ◌∷◌, ℕ, zero, suc, ◌+◌, ◌*◌, ◌/◌, ◌%◌}
use Rattle.codec.specs.Area.{part}

-- the number whose bytes, low first, are the list
unfoldable pub le : List ℕ → ℕ
le [] = 0
le (b ∷ bs) = b + 256 * le bs

-- the n low bytes of v, low first
unfoldable pub bytes : ℕ → ℕ → List ℕ
bytes zero v = []
bytes (suc n) v = v % 256 ∷ bytes n (v / 256)

-- the number in the n bytes of s from `at`
abbrev pub number_at : List ℕ → ℕ → ℕ → ℕ
number_at s at n = le (part s at n)
