-- A lift's record (document 01, "Chips and slots"): "Its record has 32 bytes: time 8, load 4, note 20." Assumes nothing.
use Rattle.std.specs.Prelude.{List, ◌++◌, ℕ, ◌+◌}
use Rattle.codec.specs.Area.{part}
use Rattle.codec.specs.Number.{bytes, number_at}

abbrev pub record_width : ℕ
record_width = 32

abbrev pub note_width : ℕ
note_width = 20

-- the record of a time, a load as stored and a note
unfoldable pub record_bytes : ℕ → ℕ → List ℕ → List ℕ
record_bytes time code note = bytes 8 time ++ (bytes 4 code ++ note)

-- what the record in an area from `at` holds
abbrev pub time_at : List ℕ → ℕ → ℕ
time_at area at = number_at area at 8

abbrev pub code_at : List ℕ → ℕ → ℕ
code_at area at = number_at area (at + 8) 4

abbrev pub note_at : List ℕ → ℕ → List ℕ
note_at area at = part area (at + 12) note_width

-- "The first four note bytes now hold a member number, 0 for none" (document 02, W-208)
abbrev pub member_at : List ℕ → ℕ → ℕ
member_at area at = number_at area (at + 12) 4
