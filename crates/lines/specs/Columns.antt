-- A field of a line (document 01, "Program"): "a field is spaces, a minus for a load below zero, then digits". Assumes nothing.
use Rattle.std.specs.Prelude.{Bool, true, false, cond, not, ◌&&◌, ◌||◌, List, [], ◌∷◌, ℕ, ◌+◌, ◌-◌, ◌*◌, leb, eqb, ℤ}
use Rattle.std.proofs.Math.IntN.{sub_ℕ}
use Rattle.lines.specs.declared.Field.{Field}
use Rattle.lines.specs.declared.Field.TheVariants.{Spaces, Minus, Digits, Broken}

-- a field as far as it is read, and then a digit, a space, a minus
abbrev pub with_digit : Field → ℕ → Field
with_digit Spaces d = Digits false d
with_digit Minus d = Digits true d
with_digit (Digits minus v) d = Digits minus (v * 10 + d)
with_digit Broken d = Broken

abbrev pub with_space : Field → Field
with_space Spaces = Spaces
with_space Minus = Broken
with_space (Digits minus v) = Broken
with_space Broken = Broken

abbrev pub with_minus : Field → Field
with_minus Spaces = Minus
with_minus Minus = Broken
with_minus (Digits minus v) = Broken
with_minus Broken = Broken

-- one column more: 48 to 57 are the digits, 32 the space, 45 the minus
unfoldable pub read_on : Field → ℕ → Field
read_on f b =
    cond (leb 48 b && leb b 57) (with_digit f (b - 48))
    (cond (eqb b 32) (with_space f)
    (cond (eqb b 45) (with_minus f)
    Broken))

unfoldable pub read_from : Field → List ℕ → Field
read_from f [] = f
read_from f (b ∷ bs) = read_from (read_on f b) bs

-- the field that these columns are
abbrev pub field_in : List ℕ → Field
field_in columns = read_from Spaces columns

-- the number of its digits, and whether a minus stands before them
abbrev pub value_of : Field → ℕ
value_of Spaces = 0
value_of Minus = 0
value_of (Digits minus v) = v
value_of Broken = 0

abbrev pub has_minus : Field → Bool
has_minus Spaces = false
has_minus Minus = false
has_minus (Digits minus v) = minus
has_minus Broken = false

-- a time: digits with no minus
abbrev pub is_time : Field → Bool
is_time Spaces = false
is_time Minus = false
is_time (Digits minus v) = not minus
is_time Broken = false

-- a load: digits, with a minus only before a number other than 0
abbrev pub is_load : Field → Bool
is_load Spaces = false
is_load Minus = false
is_load (Digits minus v) = not minus || not (eqb v 0)
is_load Broken = false

-- the load
abbrev pub load_in : Field → ℤ
load_in f = cond (has_minus f) (sub_ℕ 0 (value_of f)) (sub_ℕ (value_of f) 0)
