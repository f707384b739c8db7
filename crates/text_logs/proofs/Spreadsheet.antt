-- A gym's file of three records, by computation on the paper log of a store of two slots: the second is quoted and has leading zeros, the third is
-- too early and ends the import at its line. What went in is exported without quotes and zeros. Assumes nothing.
use mathlib.Core.Path.{◌≡◌, refl}
use mathlib.Core.List.{List, [], ◌∷◌, ◌++◌}
use Prim.Native.Nat.{ℕ}
use lib.IntN.{pos, negsuc}
use Rattle.codec.specs.Area.{part, splice, repeated}
use Rattle.codec.specs.Number.{le, bytes}
use Rattle.lift.specs.Limits.{stored}
use Rattle.bounds.specs.Grounds.{query_ground}
use Rattle.tree.specs.Rules.{needs_bucket36, tree_of, insert_more, insert, descend, allocate}
use Rattle.tree.specs.Rules as Tree
use Rattle.form.specs.declared.Form.TheVariants.{New}
use Rattle.paper_log.specs.Log.{Log, begun, close_log, drop_log, is_full, room_log, shed_log, put_log, append_log, among, joined, found}
use Rattle.paper_log.specs.Calls.{number_of, after, stepped}
use Rattle.answers.specs.Printed.{digits_within, digits}
use Rattle.lift_text.specs.Text.{head_text, load_text, record_text, lines_text, file_text}
use Rattle.csv_text.specs.Grammar.{onto_first, lines_of, same, all_digits, value_from, number_in, load_in, member_in, fields_of, record_of, record_in}
use Rattle.import.specs.Fold.{import_lines, import_text}
use Rattle.import.specs.Call.{note_of}
use Rattle.text_logs.specs.TextLog.{export_of_log, import_of_log, lift_told}

-- 5,-30,7 then "0009","300",12 then 8,0,0 without a last CRLF
abbrev file : List ℕ
file =
    head_text ++ (53 ∷ 44 ∷ 45 ∷ 51 ∷ 48 ∷ 44 ∷ 55 ∷ 13 ∷ 10 ∷ [])
    ++ (34 ∷ 48 ∷ 48 ∷ 48 ∷ 57 ∷ 34 ∷ 44 ∷ 34 ∷ 51 ∷ 48 ∷ 48 ∷ 34 ∷ 44 ∷ 49 ∷ 50 ∷ 13 ∷ 10 ∷ [])
    ++ (56 ∷ 44 ∷ 48 ∷ 44 ∷ 48 ∷ [])

abbrev after_file : Log
after_file = record {
  form = New;
  slots = 2;
  oldest = 1;
  closed = [];
  current = lift_told (record { time = 5; load = negsuc 29; member = 7 }) ∷ lift_told (record { time = 9; load = pos 300; member = 12 }) ∷ [];
  next = 9;
}

-- 7 at line 4, and the two earlier records remain
pub ends_at_line_4 : import_of_log (begun New 2) 2 file ≡ record { number = 7; line = 4; left = after_file }
unfolding import_of_log import_text import_lines lines_of onto_first same fields_of record_in record_of number_in load_in member_in all_digits value_from part
    note_of bytes repeated number_of after stepped begun close_log drop_log is_full room_log shed_log put_log append_log stored
    needs_bucket36 tree_of insert_more insert descend allocate Tree.put
ends_at_line_4 = refl

-- 5,-30,7 and 9,300,12
abbrev back : List ℕ
back =
    head_text ++ (53 ∷ 44 ∷ 45 ∷ 51 ∷ 48 ∷ 44 ∷ 55 ∷ 13 ∷ 10 ∷ [])
    ++ (57 ∷ 44 ∷ 51 ∷ 48 ∷ 48 ∷ 44 ∷ 49 ∷ 50 ∷ 13 ∷ 10 ∷ [])

-- 37 bytes, at the start of an area of 39
pub exported_without_quotes : export_of_log after_file 2 0 999999999999999 (negsuc 49999) (pos 100000) (repeated 39 255)
    ≡ record { number = 0; long = 37; area = back ++ (255 ∷ 255 ∷ []) }
unfolding export_of_log query_ground found among joined file_text lines_text record_text load_text digits digits_within note_of bytes le part splice repeated
exported_without_quotes = refl
