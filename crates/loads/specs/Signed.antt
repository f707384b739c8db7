-- Signed loads in four bytes, two's complement, and fields side by side. Assumes nothing.
use Rattle.std.specs.Prelude.{cond, List, [], ◌∷◌, ◌++◌, ℕ, zero, suc, ◌+◌, ◌-◌, ltb, ℤ, pos, negsuc}
use Rattle.codec.specs.Number.{bytes, number_at}

-- the 32 bits of a signed number, and the number of 32 bits
unfoldable pub unsigned : ℤ → ℕ
unsigned (pos n) = n
unsigned (negsuc n) = 4294967295 - n

unfoldable pub signed : ℕ → ℤ
signed n = cond (ltb n 2147483648) (pos n) (negsuc (4294967295 - n))

-- the bytes of each, side by side
unfoldable pub side_by_side : {X : Type 0} → (X → List ℕ) → List X → List ℕ
side_by_side f [] = []
side_by_side f (x ∷ xs) = f x ++ side_by_side f xs

-- a load in four bytes, and loads side by side
unfoldable pub load_bytes : ℤ → List ℕ
load_bytes z = bytes 4 (unsigned z)

abbrev pub loads_bytes : List ℤ → List ℕ
loads_bytes zs = side_by_side load_bytes zs

-- the load in the four bytes from `at`, and n loads side by side from there
unfoldable pub load_at : List ℕ → ℕ → ℤ
load_at s at = signed (number_at s at 4)

unfoldable pub loads_at : List ℕ → ℕ → ℕ → List ℤ
loads_at s at zero = []
loads_at s at (suc n) = load_at s at ∷ loads_at s (at + 4) n
