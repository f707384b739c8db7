-- How the code writes a number in columns, from the last one back; `Printed.columns` says what comes of it. Assumes nothing.
use Rattle.std.specs.Prelude.{Bool, true, false, cond, List, [], ◌∷◌, ◌++◌, ℕ, zero, suc, ◌+◌, ◌/◌, ◌%◌, leb}
use Rattle.answers.specs.declared.Pen.{Pen}
use Rattle.answers.specs.declared.Pen.TheVariants.{Digits, Minus, Spaces}

-- the last column of what is left to write: a digit, the minus, or a space
abbrev pub pen_byte : Pen → ℕ
pen_byte (Digits v minus) = 48 + v % 10
pen_byte Minus = 45
pen_byte Spaces = 32

-- before the first digit
abbrev pub lead : Bool → Pen
lead true = Minus
lead false = Spaces

-- what is left before that column
abbrev pub pen_next : Pen → Pen
pen_next (Digits v minus) = cond (leb 10 v) (Digits (v / 10) minus) (lead minus)
pen_next Minus = Spaces
pen_next Spaces = Spaces

-- w columns
unfoldable pub columns_of : ℕ → Pen → List ℕ
columns_of zero p = []
columns_of (suc w) p = columns_of w (pen_next p) ++ (pen_byte p ∷ [])
