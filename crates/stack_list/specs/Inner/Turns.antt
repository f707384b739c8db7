-- What the loops of the generator have left to do. Assumes nothing.
use Rattle.std.specs.Prelude.{◌≡◌, Bool, true, cond, ◌&&◌, List, [], ◌∷◌, ◌++◌, map, ℕ, suc, ◌+◌, ◌/◌, ◌≤◌, ◌<◌, ltb, eqb, length, Option, Some, None}
use Rattle.plate.specs.Stack.{most_plates, is_plate}
use Rattle.lines.specs.Forms.{line_feed}
use Rattle.answers.specs.Printed.{number}
use Rattle.stack_list.specs.declared.reading.Read.{Read}
use Rattle.stack_list.specs.ListForm.{lines_of, is_blank, six_columns, plate_in, most_stacks, is_list}

-- the bytes before the first line feed
unfoldable pub first_line : List ℕ → List ℕ
first_line [] = []
first_line (b ∷ bs) = cond (eqb b line_feed) [] (b ∷ first_line bs)

-- a line that is a plate's, within the sizes, or 0
unfoldable pub plate_or0 : List ℕ → ℕ
plate_or0 line = cond (six_columns line && is_plate (plate_in line)) (plate_in line) 0

-- the plate of a line that has one
pub record IsPlate (line : List ℕ) (plate : ℕ) : Type 0 where
  pub is : plate ≡ plate_or0 line
  pub some : 0 < plate

-- a line after so many stacks, the last of them with so many plates: its number, and the counts after it; none where no list can go on
-- with it
unfoldable pub read_line : List ℕ → ℕ → ℕ → Option Read
read_line line stacks plates =
    cond (is_blank line)
    (cond (ltb 0 plates && ltb stacks most_stacks) (Some (record { number = 0; stacks = suc stacks; plates = 0 })) None)
    (cond (ltb plates most_plates && ltb 0 (plate_or0 line)) (Some (record { number = plate_or0 line; stacks = stacks; plates = suc plates })) None)

-- the lines from here on make a list, after so many stacks, the last of them with so many plates
unfoldable pub list_from : ℕ → ℕ → List (List ℕ) → Bool
list_from stacks plates [] = ltb 0 plates
list_from stacks plates (line ∷ lines) =
    cond (is_blank line)
    ((ltb 0 plates && ltb stacks most_stacks) && list_from (suc stacks) 0 lines)
    ((ltb plates most_plates && ltb 0 (plate_or0 line)) && list_from stacks (suc plates) lines)

-- a list read: one number for each line
pub record Listed (text numbers : List ℕ) : Type 0 where
  pub is : is_list text ≡ true
  pub most : length numbers ≤ 399
  pub each : numbers ≡ map plate_in (lines_of text)

-- an end on its line
unfoldable pub end_line : ℕ → List ℕ
end_line end = number 6 end ++ (line_feed ∷ [])

-- what is printed for a number under plates of this sum, the lowest of them `above`: the end of the plate above this one; for 0, a blank
-- line, the last end of its stack before it
unfoldable pub turn_lines : ℕ → ℕ → ℕ → List ℕ
turn_lines sum above n = cond (eqb n 0) (end_line (sum + above / 2) ++ (line_feed ∷ [])) (end_line (sum + n / 2))

-- the sum of a stack's plates down to this one; a blank line begins the next stack
abbrev pub sum_on : ℕ → ℕ → ℕ
sum_on sum n = cond (eqb n 0) 0 (sum + n)

unfoldable pub end_lines : ℕ → ℕ → List ℕ → List ℕ
end_lines sum above [] = end_line (sum + above / 2)
end_lines sum above (n ∷ ns) = turn_lines sum above n ++ end_lines (sum_on sum n) n ns
