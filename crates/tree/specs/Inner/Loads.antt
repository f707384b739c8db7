-- What the laws of a built tree ask of its loads. Assumes nothing.
use Rattle.std.specs.Prelude.{ℕ, ◌≤◌, ◌<◌, List, [], ◌∷◌}

-- every load, as stored, is within the limits
abbrev pub Loads : List ℕ → Type 0
Loads [] = Unit {0}
Loads (l ∷ ls) = (0 < l) × (l ≤ 150001) × Loads ls
