-- The records of a segment: those before place `first` stand in `lifts`, the others in `tail` (document 01, "Chips and slots": 16 lifts a page in
-- order of arrival; "State": page buffer). Assumes nothing.
use Rattle.std.specs.Prelude.{cond, List, ℕ, ◌-◌, ◌*◌, ◌/◌, ltb, length}
use Rattle.codec.specs.Area.{part}
use Rattle.lift.specs.Record.{record_width, time_at, code_at, member_at}

-- "16 a page", in 20 pages: a segment has at most 320 lifts
abbrev pub lifts_per_page : ℕ
lifts_per_page = 16

abbrev pub lifts_most : ℕ
lifts_most = 320

-- how many of a segment's lifts stand in full pages
abbrev pub in_full_pages : ℕ → ℕ
in_full_pages count = count / lifts_per_page * lifts_per_page

-- "the whole 32-byte rows of the result area"
abbrev pub whole_rows : List ℕ → ℕ
whole_rows area = length area / record_width

-- the time, the load as stored, the member and the record of the lift at place p
unfoldable pub time_in : List ℕ → List ℕ → ℕ → ℕ → ℕ
time_in lifts tail first p = cond (ltb p first) (time_at lifts (p * record_width)) (time_at tail ((p - first) * record_width))

unfoldable pub code_in : List ℕ → List ℕ → ℕ → ℕ → ℕ
code_in lifts tail first p = cond (ltb p first) (code_at lifts (p * record_width)) (code_at tail ((p - first) * record_width))

unfoldable pub member_in : List ℕ → List ℕ → ℕ → ℕ → ℕ
member_in lifts tail first p = cond (ltb p first) (member_at lifts (p * record_width)) (member_at tail ((p - first) * record_width))

unfoldable pub record_in : List ℕ → List ℕ → ℕ → ℕ → List ℕ
record_in lifts tail first p = cond (ltb p first) (part lifts (p * record_width) record_width) (part tail ((p - first) * record_width) record_width)
