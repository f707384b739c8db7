-- Byte areas as lists of bytes: a part of an area, and an area with a part replaced. Assumes nothing.
use Rattle.std.specs.Prelude.{Bool, true, ◌&&◌, List, [], ◌∷◌, ◌++◌, ℕ, ◌+◌, eqb, length, take, drop, replicate}

-- the n bytes of s from `at`
unfoldable pub part : List ℕ → ℕ → ℕ → List ℕ
part s at n = take n (drop at s)

-- s with p in the place of its bytes from `at`
unfoldable pub splice : List ℕ → ℕ → List ℕ → List ℕ
splice s at p = take at s ++ p ++ drop (at + length p) s

-- n bytes of the value v
unfoldable pub repeated : ℕ → ℕ → List ℕ
repeated n v = replicate n v

-- every byte is 255: document 01's "erased"
unfoldable pub all_ones : List ℕ → Bool
all_ones [] = true
all_ones (b ∷ bs) = eqb b 255 && all_ones bs
