-- By computation: small files and records read by the grammar (document 02, W-211). 48 to 57 are the digits, 34 the quote, 44 the comma, 45 the
-- minus, 13 and 10 CRLF. Assumes nothing.
use mathlib.Core.Path.{◌≡◌, refl}
use mathlib.Core.Bool.{true, false}
use mathlib.Core.Option.{Option, none, some}
use mathlib.Core.List.{List, [], ◌∷◌, ◌++◌}
use Prim.Native.Nat.{ℕ}
use lib.IntN.{ℤ, pos, negsuc}
use lib.ListN.{replicate}
use Rattle.codec.specs.Area.{part}
use Rattle.lift_text.specs.Text.{Told, heading, line_end}
use Rattle.csv_text.specs.Grammar.{onto_first, lines_of, same, has_heading}
use Rattle.csv_text.specs.Grammar.{all_digits, value_from, number_in, load_in, member_in, fields_of, record_of, record_in}

abbrev is : ℕ → ℤ → ℕ → Option Told
is time load member = some (record { time = time; load = load; member = member })

-- 1,2,3
abbrev plain : List ℕ
plain = 49 ∷ 44 ∷ 50 ∷ 44 ∷ 51 ∷ []

-- ---- a record

pub plainly : record_in plain ≡ is 1 (pos 2) 3
unfolding record_in record_of fields_of onto_first number_in load_in member_in all_digits value_from part
plainly = refl

-- 1,-0,3 and 1,-2,3
pub minus :
    (record_in (49 ∷ 44 ∷ 45 ∷ 48 ∷ 44 ∷ 51 ∷ []) ≡ is 1 (pos 0) 3)
    × (record_in (49 ∷ 44 ∷ 45 ∷ 50 ∷ 44 ∷ 51 ∷ []) ≡ is 1 (negsuc 1) 3)
unfolding record_in record_of fields_of onto_first number_in load_in member_in all_digits value_from part
minus = (refl, refl)

-- each field by itself, the minus inside: "1",2,3 and 1,"-2",3 and "1","2","3"; but not 1,-"2",3 nor "1,2,3 nor 1,2,3"
pub quotes :
    (record_in (34 ∷ 49 ∷ 34 ∷ 44 ∷ 50 ∷ 44 ∷ 51 ∷ []) ≡ is 1 (pos 2) 3)
    × (record_in (49 ∷ 44 ∷ 34 ∷ 45 ∷ 50 ∷ 34 ∷ 44 ∷ 51 ∷ []) ≡ is 1 (negsuc 1) 3)
    × (record_in (34 ∷ 49 ∷ 34 ∷ 44 ∷ 34 ∷ 50 ∷ 34 ∷ 44 ∷ 34 ∷ 51 ∷ 34 ∷ []) ≡ is 1 (pos 2) 3)
    × (record_in (49 ∷ 44 ∷ 45 ∷ 34 ∷ 50 ∷ 34 ∷ 44 ∷ 51 ∷ []) ≡ none)
    × (record_in (34 ∷ plain) ≡ none)
    × (record_in (plain ++ (34 ∷ [])) ≡ none)
unfolding record_in record_of fields_of onto_first number_in load_in member_in all_digits value_from part
quotes = (refl, refl, refl, refl, refl, refl)

-- 001,-02,03
pub leading_zeros : record_in (48 ∷ 48 ∷ 49 ∷ 44 ∷ 45 ∷ 48 ∷ 50 ∷ 44 ∷ 48 ∷ 51 ∷ []) ≡ is 1 (negsuc 1) 3
unfolding record_in record_of fields_of onto_first number_in load_in member_in all_digits value_from part
leading_zeros = refl

-- 15 digits and 16, zeros too; none
pub how_many_digits :
    (record_in (replicate 15 57 ++ (44 ∷ 50 ∷ 44 ∷ 51 ∷ [])) ≡ is 999999999999999 (pos 2) 3)
    × (record_in (replicate 16 57 ++ (44 ∷ 50 ∷ 44 ∷ 51 ∷ [])) ≡ none)
    × (record_in (49 ∷ 44 ∷ 45 ∷ (replicate 15 57 ++ (44 ∷ 51 ∷ []))) ≡ is 1 (negsuc 999999999999998) 3)
    × (record_in (49 ∷ 44 ∷ 50 ∷ 44 ∷ replicate 16 48) ≡ none)
    × (record_in (49 ∷ 44 ∷ 45 ∷ 44 ∷ 51 ∷ []) ≡ none)
    × (record_in (34 ∷ 34 ∷ 44 ∷ 50 ∷ 44 ∷ 51 ∷ []) ≡ none)
unfolding record_in record_of fields_of onto_first number_in load_in member_in all_digits value_from part
how_many_digits = (refl, refl, refl, refl, refl, refl)

-- member 4294967295, and 4294967296
pub members :
    (record_in (49 ∷ 44 ∷ 50 ∷ 44 ∷ 52 ∷ 50 ∷ 57 ∷ 52 ∷ 57 ∷ 54 ∷ 55 ∷ 50 ∷ 57 ∷ 53 ∷ []) ≡ is 1 (pos 2) 4294967295)
    × (record_in (49 ∷ 44 ∷ 50 ∷ 44 ∷ 52 ∷ 50 ∷ 57 ∷ 52 ∷ 57 ∷ 54 ∷ 55 ∷ 50 ∷ 57 ∷ 54 ∷ []) ≡ none)
unfolding record_in record_of fields_of onto_first number_in load_in member_in all_digits value_from part
members = (refl, refl)

-- -1,2,3 and 1,2,-3 and 1,2 and 1,2,3,3 and a space before: none is a record; nor is a line with nothing
pub others :
    (record_in (45 ∷ plain) ≡ none)
    × (record_in (49 ∷ 44 ∷ 50 ∷ 44 ∷ 45 ∷ 51 ∷ []) ≡ none)
    × (record_in (49 ∷ 44 ∷ 50 ∷ []) ≡ none)
    × (record_in (plain ++ (44 ∷ 51 ∷ [])) ≡ none)
    × (record_in (32 ∷ plain) ≡ none)
    × (record_in [] ≡ none)
unfolding record_in record_of fields_of onto_first number_in load_in member_in all_digits value_from part
others = (refl, refl, refl, refl, refl, refl)

-- ---- the lines

-- the last CRLF present or not; an empty line at the end is a line
pub last_end :
    (lines_of (heading ++ (line_end ++ (plain ++ line_end))) ≡ heading ∷ plain ∷ [])
    × (lines_of (heading ++ (line_end ++ plain)) ≡ heading ∷ plain ∷ [])
    × (lines_of (heading ++ (line_end ++ (plain ++ (line_end ++ line_end)))) ≡ heading ∷ plain ∷ [] ∷ [])
unfolding lines_of onto_first
last_end = (refl, refl, refl)

-- LF alone, and CR alone, are content, so that these are no records
pub alone :
    (lines_of (plain ++ (10 ∷ plain)) ≡ (plain ++ (10 ∷ plain)) ∷ [])
    × (lines_of (plain ++ (13 ∷ [])) ≡ (plain ++ (13 ∷ [])) ∷ [])
    × (lines_of (plain ++ (13 ∷ line_end)) ≡ (plain ++ (13 ∷ [])) ∷ [])
    × (record_in (plain ++ (10 ∷ [])) ≡ none)
    × (record_in (plain ++ (13 ∷ [])) ≡ none)
unfolding lines_of record_in record_of fields_of onto_first number_in load_in member_in all_digits value_from part
alone = (refl, refl, refl, refl, refl)

-- ---- the header

-- unquoted, with its CRLF or without; "time",load,member is none, and an empty file and one that begins with CRLF have none
pub headers :
    (has_heading (lines_of (heading ++ line_end)) ≡ true)
    × (has_heading (lines_of heading) ≡ true)
    × (has_heading (lines_of (34 ∷ 116 ∷ 105 ∷ 109 ∷ 101 ∷ 34 ∷ 44 ∷ 108 ∷ 111 ∷ 97 ∷ 100 ∷ 44 ∷ 109 ∷ 101 ∷ 109 ∷ 98 ∷ 101 ∷ 114 ∷ line_end)) ≡ false)
    × (lines_of [] ≡ [])
    × (has_heading (lines_of []) ≡ false)
    × (has_heading (lines_of (line_end ++ heading)) ≡ false)
unfolding lines_of onto_first same
headers = (refl, refl, refl, refl, refl, refl)
