-- The grammar of an imported file (document 02, W-211; RFC 4180): the file is cut at CRLF into lines, a line at commas into fields, and a field is
-- a decimal number, in quotes or not. Assumes nothing.
use Rattle.std.specs.Prelude.{Bool, true, false, cond, ◌&&◌, List, [], ◌∷◌, ℕ, ◌+◌, ◌-◌, ◌*◌, eqb, leb, ℤ, pos, length, get_or, drop}
use Rattle.std.proofs.Math.Option.{Option, none, some}
use Rattle.std.proofs.Math.IntN.{sub_ℕ}
use Rattle.codec.specs.Area.{part}
use Rattle.lift_text.specs.Text.{Told, comma, heading}

-- ---- the file

-- a byte more at the front of the first piece
unfoldable pub onto_first : ℕ → List (List ℕ) → List (List ℕ)
onto_first b [] = (b ∷ []) ∷ []
onto_first b (piece ∷ pieces) = (b ∷ piece) ∷ pieces

-- its lines, cut at CRLF (13 and 10), "the last CRLF present or not"; a CR or LF by itself is content
unfoldable pub lines_of : List ℕ → List (List ℕ)
lines_of [] = []
lines_of (b ∷ []) = (b ∷ []) ∷ []
lines_of (b ∷ c ∷ rest) = cond (eqb b 13 && eqb c 10) ([] ∷ lines_of rest) (onto_first b (lines_of (c ∷ rest)))

-- the same bytes
unfoldable pub same : List ℕ → List ℕ → Bool
same [] [] = true
same [] (b ∷ bs) = false
same (a ∷ rest) [] = false
same (a ∷ rest) (b ∷ bs) = eqb a b && same rest bs

-- "that header unquoted"; a file without a line has none
abbrev pub has_heading : List (List ℕ) → Bool
has_heading [] = false
has_heading (line ∷ lines) = same line heading

-- the lines behind the first
abbrev pub after_first : List (List ℕ) → List (List ℕ)
after_first [] = []
after_first (line ∷ lines) = lines

-- ---- a field

-- it stands in quotes (34), each field by itself
abbrev pub is_quoted : List ℕ → Bool
is_quoted f = leb 2 (length f) && (eqb (get_or f 0 0) 34 && eqb (get_or f (length f - 1) 0) 34)

-- what stands in the quotes, or the field as it is
abbrev pub bare : List ℕ → List ℕ
bare f = cond (is_quoted f) (part f 1 (length f - 2)) f

-- 48 to 57 are the digits
unfoldable pub all_digits : List ℕ → Bool
all_digits [] = true
all_digits (b ∷ bs) = (leb 48 b && leb b 57) && all_digits bs

-- the number that digits say, after the number v
unfoldable pub value_from : ℕ → List ℕ → ℕ
value_from v [] = v
value_from v (b ∷ bs) = value_from (v * 10 + (b - 48)) bs

-- "decimal fields of 1 to 15 digits without sign"; leading zeros are digits
unfoldable pub number_in : List ℕ → Option ℕ
number_in f = cond ((leb 1 (length f) && leb (length f) 15) && all_digits f) (some (value_from 0 f)) none

-- "(a minus for loads)": it stands inside the quotes; −0 is 0
abbrev pub positive : Option ℕ → Option ℤ
positive none = none
positive (some v) = some (pos v)

abbrev pub negative : Option ℕ → Option ℤ
negative none = none
negative (some v) = some (sub_ℕ 0 v)

unfoldable pub load_in : List ℕ → Option ℤ
load_in f = cond (eqb (get_or f 0 0) 45) (negative (number_in (drop 1 f))) (positive (number_in f))

-- "a member above 4,294,967,295 is a bad record"
abbrev pub member_most : ℕ
member_most = 4294967295

abbrev pub within_most : Option ℕ → Option ℕ
within_most none = none
within_most (some v) = cond (leb v member_most) (some v) none

unfoldable pub member_in : List ℕ → Option ℕ
member_in f = within_most (number_in f)

-- ---- a record

-- a line's fields, cut at commas
unfoldable pub fields_of : List ℕ → List (List ℕ)
fields_of [] = [] ∷ []
fields_of (b ∷ bs) = cond (eqb b comma) ([] ∷ fields_of bs) (onto_first b (fields_of bs))

abbrev pub told : Option ℕ → Option ℤ → Option ℕ → Option Told
told none k m = none
told (some t) none m = none
told (some t) (some k) none = none
told (some t) (some k) (some m) = some (record { time = t; load = k; member = m })

-- a time, a load and a member: three fields, each of its form
unfoldable pub record_of : List (List ℕ) → Option Told
record_of [] = none
record_of (t ∷ []) = none
record_of (t ∷ k ∷ []) = none
record_of (t ∷ k ∷ m ∷ []) = told (number_in (bare t)) (load_in (bare k)) (member_in (bare m))
record_of (t ∷ k ∷ m ∷ more ∷ fields) = none

-- none is a bad record
unfoldable pub record_in : List ℕ → Option Told
record_in line = record_of (fields_of line)
