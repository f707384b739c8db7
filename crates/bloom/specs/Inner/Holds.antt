-- What the laws of a section speak of: all three bits of a load are set. Assumes nothing.
use Rattle.std.specs.Prelude.{Bool, List, ℕ}
use Rattle.bloom.specs.Bloom.{is_set, at_bits}

-- whether a section has all three bits of a code
abbrev pub holds : List ℕ → ℕ → Bool
holds s code = at_bits (is_set s) code
