-- The text of rows counted in bytes, and the answer as the code has it. Assumes nothing.
use Rattle.std.specs.Prelude.{◌≡◌, List, map, ℕ, ◌+◌, length, Result, Ok, Err}
use Rattle.std.proofs.Math.Option.{Option, none, some}
use Rattle.codec.specs.Area.{splice}
use Rattle.lift.specs.Rows.{record_in}
use Rattle.lift_text.specs.Text.{told_in, lines_text}
use Rattle.bitset.specs.Inner.Words.{members}
use Rattle.grounds.specs.declared.Ground.{Ground}
use Rattle.grounds.specs.Numbers.{number_of}
use Rattle.export.specs.Answers.{ExportAnswer, refused_export}

-- rows as lines
abbrev pub row_lines : List (List ℕ) → List ℕ
row_lines rows = lines_text (map told_in rows)

-- those of the lifts at the places of a set
abbrev pub set_lines : List ℕ → List ℕ → ℕ → List ℕ → List ℕ
set_lines lifts tail first words = row_lines (map (record_in lifts tail first) (members words))

-- so many bytes, without damage
pub record SizeIs (o : Option (List (List ℕ))) (n : ℕ) : Type 0 where
  pub rows : List (List ℕ)
  pub are : o ≡ some rows
  pub bytes : n ≡ length (row_lines rows)

-- 65 bytes for each of at most 320 lifts
abbrev pub segment_most : ℕ
segment_most = 20800

-- the text ends here, 18 bytes of header before its lines
abbrev pub EndsAt : ℕ → Option (List (List ℕ)) → Type 0
EndsAt end none = ⊥
EndsAt end (some rows) = 18 + length (row_lines rows) ≡ end

-- the area with the lines behind the header
abbrev pub lines_from : List ℕ → Option (List (List ℕ)) → List ℕ
lines_from area none = area
lines_from area (some rows) = splice area 18 (row_lines rows)

-- what a piece of the call hands back, with the area after it
abbrev pub answered : Result ℕ Ground → List ℕ → ExportAnswer
answered (Ok long) area = record { number = 0; long = long; area = area }
answered (Err g) area = refused_export (number_of g) area
