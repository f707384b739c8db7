-- The answer of an export (document 02, W-211; grounds 10 and 12). Assumes nothing.
use Rattle.std.specs.Prelude.{cond, List, map, ℕ, ltb, length}
use Rattle.std.proofs.Math.Option.{Option, none, some}
use Rattle.codec.specs.Area.{splice}
use Rattle.lift_text.specs.Text.{told_in, file_text}

-- number, length of the text and result area
pub record ExportAnswer : Type 0 where
  pub number : ℕ
  pub long : ℕ
  pub area : List ℕ

-- a refusal
abbrev pub refused_export : ℕ → List ℕ → ExportAnswer
refused_export n area = record { number = n; long = 0; area = area }

-- the rows of a search as text
abbrev pub rows_text : List (List ℕ) → List ℕ
rows_text rows = file_text (map told_in rows)

-- "ground 12 counts the area's bytes, and the length is returned"; the rest of the area keeps its bytes; none stands for damage
unfoldable pub export_answer : List ℕ → Option (List (List ℕ)) → ExportAnswer
export_answer area none = refused_export 10 area
export_answer area (some rows) =
    cond (ltb (length area) (length (rows_text rows)))
    (refused_export 12 area)
    (record { number = 0; long = length (rows_text rows); area = splice area 0 (rows_text rows) })
