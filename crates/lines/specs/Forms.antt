-- The forms of a line (document 01, "Program"; P: document 02, W-201): "letter, then times in 15 columns and loads in 8".
-- Assumes nothing.
use Rattle.std.specs.Prelude.{Bool, true, false, cond, ◌&&◌, List, ℕ, eqb, length, get_or}
use Rattle.codec.specs.Area.{part}
use Rattle.lines.specs.declared.Field.{Field}
use Rattle.lines.specs.declared.Line.{Line}
use Rattle.lines.specs.declared.Line.TheVariants.{Append, Close, Drop, Search, Tally, Page, Other}
use Rattle.lines.specs.Columns.{field_in, value_of, is_time, is_load, load_in}

-- the byte that ends a line
abbrev pub line_feed : ℕ
line_feed = 10

-- the field of a time and that of a load, from a column on
abbrev pub time_field : List ℕ → ℕ → Field
time_field s at = field_in (part s at 15)

abbrev pub load_field : List ℕ → ℕ → Field
load_field s at = field_in (part s at 8)

-- "A appends", by a time and a load
abbrev pub append_of : Field → Field → Line
append_of t k = cond (is_time t && is_load k) (Append (value_of t) (load_in k)) Other

unfoldable pub append_line : List ℕ → Line
append_line s = append_of (time_field s 1) (load_field s 16)

-- "Q searches (t1 t2 k1 k2)"
abbrev pub search_of : Field → Field → Field → Field → Line
search_of t1 t2 k1 k2 =
    cond ((is_time t1 && is_time t2) && (is_load k1 && is_load k2)) (Search (value_of t1) (value_of t2) (load_in k1) (load_in k2)) Other

unfoldable pub search_line : List ℕ → Line
search_line s = search_of (time_field s 1) (time_field s 16) (load_field s 31) (load_field s 39)

-- "T tallies (t1 t2)"; P prints the page of that tally (document 02, W-201)
abbrev pub window_of : Bool → Field → Field → Line
window_of page t1 t2 =
    cond (is_time t1 && is_time t2) (cond page (Page (value_of t1) (value_of t2)) (Tally (value_of t1) (value_of t2))) Other

unfoldable pub window_line : Bool → List ℕ → Line
window_line page s = window_of page (time_field s 1) (time_field s 16)

-- a line of this length that starts with this letter
unfoldable pub has_form : List ℕ → ℕ → ℕ → Bool
has_form s letter n = eqb (length s) n && eqb (get_or s 0 0) letter

-- a line without its line feed; 65, 67, 71, 80, 81 and 84 are the letters A, C, G, P, Q and T
unfoldable pub line_of : List ℕ → Line
line_of s =
    cond (has_form s 65 24) (append_line s)
    (cond (has_form s 67 1) Close
    (cond (has_form s 71 1) Drop
    (cond (has_form s 81 47) (search_line s)
    (cond (has_form s 84 31) (window_line false s)
    (cond (has_form s 80 31) (window_line true s)
    Other)))))
