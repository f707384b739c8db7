-- By computation: the example of document 01, "Program", its three lines read. Assumes nothing.
use mathlib.Core.Path.{◌≡◌, refl}
use mathlib.Core.List.{List, [], ◌∷◌, ◌++◌}
use Prim.Native.Nat.{ℕ}
use lib.IntN.{pos}
use lib.ListN.{replicate}
use Rattle.codec.specs.Area.{part}
use Rattle.lines.specs.declared.Line.TheVariants.{Append, Search}
use Rattle.lines.specs.Columns.{read_on, read_from}
use Rattle.lines.specs.Forms.{append_line, search_line, has_form, line_of}

abbrev spaces : ℕ → List ℕ → List ℕ
spaces n l = replicate n 32 ++ l

-- 48 to 57 are the digits, 65 is A, 81 is Q
pub first_read : line_of (65 ∷ spaces 11 (49 ∷ 48 ∷ 48 ∷ 48 ∷ spaces 5 (50 ∷ 53 ∷ 48 ∷ []))) ≡ Append 1000 (pos 250)
unfolding line_of has_form append_line search_line part read_from read_on
first_read = refl

pub second_read : line_of (65 ∷ spaces 11 (50 ∷ 48 ∷ 48 ∷ 48 ∷ spaces 5 (55 ∷ 53 ∷ 49 ∷ []))) ≡ Append 2000 (pos 751)
unfolding line_of has_form append_line search_line part read_from read_on
second_read = refl

pub third_read :
    line_of (81 ∷ spaces 14 (48 ∷ spaces 11 (51 ∷ 48 ∷ 48 ∷ 48 ∷ spaces 5 (50 ∷ 53 ∷ 49 ∷ spaces 4 (49 ∷ 48 ∷ 48 ∷ 48 ∷ [])))))
    ≡ Search 0 3000 (pos 251) (pos 1000)
unfolding line_of has_form append_line search_line part read_from read_on
third_read = refl
