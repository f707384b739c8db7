-- All that a paper log holds, as rows (document 02, W-208: "as a search over all times and loads gives" it). Assumes nothing.
use Rattle.std.specs.Prelude.{List, map, ℕ}
use Rattle.paper_log.specs.Log.{Log, retained, row_of}

-- the records of all retained lifts, by serial, then arrival
abbrev pub all_rows : Log → List (List ℕ)
all_rows g = map row_of (retained g)
