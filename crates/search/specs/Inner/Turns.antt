-- The turns of the loops that write: rows written segment by segment, the newest first. Assumes nothing.
use Rattle.std.specs.Prelude.{◌≡◌, List, ℕ, ◌+◌, ◌*◌, length}
use Rattle.std.proofs.Math.Option.{Option, none, some}
use Rattle.lift.specs.Record.{record_width}
use Rattle.codec.specs.Area.{splice}
use Rattle.search.specs.Answers.{row_bytes}

-- the area with the rows, from its start on
abbrev pub written_in : List ℕ → Option (List (List ℕ)) → List ℕ
written_in area none = area
written_in area (some rows) = splice area 0 (row_bytes rows)

-- rows that end at row `end` and begin at row r are written
pub record WrittenUpTo (area new : List ℕ) (rows : List (List ℕ)) (end r : ℕ) : Type 0 where
  pub begins : r + length rows ≡ end
  pub are : new ≡ splice area (r * record_width) (row_bytes rows)

-- no damage, and so many rows
abbrev pub CountIs : ℕ → Option (List (List ℕ)) → Type 0
CountIs n none = ⊥
CountIs n (some rows) = n ≡ length rows
