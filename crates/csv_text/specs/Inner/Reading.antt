-- What the code reads from a place of the text on. Assumes nothing.
use Rattle.std.specs.Prelude.{◌≡◌, true, List, [], ◌∷◌, ℕ, ◌≤◌, ◌<◌, length, drop}
use Rattle.std.proofs.Math.Option.{Option, none, some}
use Rattle.lift_text.specs.Text.{Told}
use Rattle.csv_text.specs.declared.Line.{Line}
use Rattle.csv_text.specs.Grammar.{lines_of, has_heading, after_first, record_in}

-- the record of the first line
abbrev pub first_record : List (List ℕ) → Option Told
first_record [] = none
first_record (line ∷ lines) = record_in line

abbrev pub told_by : Line → Told
told_by l = record { time = l.time; load = l.load; member = l.member }

-- a record's line from `at` on, and where the next one begins
pub record LineRead (text : List ℕ) (at : ℕ) (l : Line) : Type 0 where
  pub says : first_record (lines_of (drop at text)) ≡ some (told_by l)
  pub on : after_first (lines_of (drop at text)) ≡ lines_of (drop l.next text)
  pub further : at < l.next
  pub inside : l.next ≤ length text

-- the header, and where the next line begins
pub record HeadingRead (text : List ℕ) (next : ℕ) : Type 0 where
  pub is : has_heading (lines_of text) ≡ true
  pub on : after_first (lines_of text) ≡ lines_of (drop next text)
  pub inside : next ≤ length text
  pub past : 2 ≤ next
