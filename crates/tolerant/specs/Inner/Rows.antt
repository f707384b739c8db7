-- The rows of an area. Assumes nothing.
use Rattle.std.specs.Prelude.{List, [], ◌∷◌, ℕ, zero, suc, ◌*◌}
use Rattle.codec.specs.Area.{part}
use Rattle.lift.specs.Record.{record_width}

-- n rows of 32 bytes, from row i on
unfoldable pub rows_in : List ℕ → ℕ → ℕ → List (List ℕ)
rows_in area i zero = []
rows_in area i (suc n) = part area (i * record_width) record_width ∷ rows_in area (suc i) n
