-- Lifts as text (document 02, W-211): "RFC 4180 records with CRLF after each, unquoted and without leading zeros: header `time,load,member`, then
-- one record per lift". Assumes nothing.
use Rattle.std.specs.Prelude.{true, false, List, [], ◌∷◌, ◌++◌, ℕ, suc, ℤ, pos, negsuc}
use Rattle.lift.specs.Limits.{load_of}
use Rattle.lift.specs.Record.{time_at, code_at, member_at}
use Rattle.answers.specs.Printed.{digits, numeral}

-- what a record tells of a lift
pub record Told : Type 0 where
  pub time : ℕ
  pub load : ℤ
  pub member : ℕ

-- what the 32 bytes of a lift hold of it
abbrev pub told_in : List ℕ → Told
told_in row = record { time = time_at row 0; load = load_of (code_at row 0); member = member_at row 0 }

-- the comma, and CRLF
abbrev pub comma : ℕ
comma = 44

abbrev pub line_end : List ℕ
line_end = 13 ∷ 10 ∷ []

-- "header `time,load,member`"
abbrev pub heading : List ℕ
heading = 116 ∷ 105 ∷ 109 ∷ 101 ∷ 44 ∷ 108 ∷ 111 ∷ 97 ∷ 100 ∷ 44 ∷ 109 ∷ 101 ∷ 109 ∷ 98 ∷ 101 ∷ 114 ∷ []

-- the digits of a load, after a minus below zero; −(n + 1) is `negsuc n`
unfoldable pub load_text : ℤ → List ℕ
load_text (pos n) = numeral false n
load_text (negsuc n) = numeral true (suc n)

-- a record, without its CRLF
unfoldable pub record_text : Told → List ℕ
record_text r = digits r.time ++ (comma ∷ (load_text r.load ++ (comma ∷ digits r.member)))

-- "CRLF after each"
abbrev pub line_text : Told → List ℕ
line_text r = record_text r ++ line_end

unfoldable pub lines_text : List Told → List ℕ
lines_text [] = []
lines_text (r ∷ rs) = line_text r ++ lines_text rs

-- the whole file
abbrev pub head_text : List ℕ
head_text = heading ++ line_end

unfoldable pub file_text : List Told → List ℕ
file_text rs = head_text ++ lines_text rs
