-- An import as a fold of appends over the lines of a file (document 02, W-211), whatever a store is: "appends each in turn", and "A bad record, or a
-- refused append, ends the import, reported with its line, and only earlier ones remain". Assumes nothing.
use Rattle.std.specs.Prelude.{cond, List, [], ◌∷◌, ℕ, suc, eqb}
use Rattle.std.proofs.Math.Option.{Option, none, some}
use Rattle.lift_text.specs.Text.{Told}
use Rattle.csv_text.specs.Grammar.{lines_of, has_heading, after_first, record_in}

-- the number, the line that ended it (0 if all went in), and the store as it is left
pub record Imported (X : Type 0) : Type 0 where
  pub number : ℕ
  pub line : ℕ
  pub left : X

-- "a header or record against this form"
abbrev pub bad_form : ℕ
bad_form = 18

-- by the number of grounds 1 to 3 in a store, the number of an append to it, and the store after that append
module _ {X : Type 0} (before : X → ℕ) (number : X → Told → ℕ) (after : X → Told → X) where
  -- "18: .. after 3 and before that record's other grounds"; an append has grounds 1 to 3 of its own
  abbrev pub line_number : X → Option Told → ℕ
  line_number x none = cond (eqb (before x) 0) bad_form (before x)
  line_number x (some r) = number x r

  abbrev pub line_after : X → Option Told → X
  line_after x none = x
  line_after x (some r) = after x r

  -- from this line on
  unfoldable pub import_lines : ℕ → List (List ℕ) → X → Imported X
  import_lines line [] x = record { number = 0; line = 0; left = x }
  import_lines line (l ∷ ls) x =
      let n = line_number x (record_in l) in
      cond (eqb n 0) (import_lines (suc line) ls (line_after x (record_in l))) (record { number = n; line = line; left = x })

  -- "The header is line 1"; grounds 1 to 3 come before it, with line 0
  unfoldable pub import_text : List ℕ → X → Imported X
  import_text text x =
      cond (eqb (before x) 0)
      (cond (has_heading (lines_of text)) (import_lines 2 (after_first (lines_of text)) x) (record { number = bad_form; line = 1; left = x }))
      (record { number = before x; line = 0; left = x })
