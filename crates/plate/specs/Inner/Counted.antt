-- The counts of a tally as the code changes them, one place for each lift. Assumes nothing.
use Rattle.std.specs.Prelude.{List, ℕ, ◌+◌, get_or, set}
use Rattle.lift.specs.Limits.{load_of}
use Rattle.plate.specs.Plate.{plate_of}

abbrev pub counted_in : List ℕ → ℕ → List ℕ
counted_in counts code = set counts (plate_of (load_of code)) (get_or counts (plate_of (load_of code)) 0 + 1)
