-- The service page (document 02, W-201): a tally, "a page 40 columns wide, numbers right-justified". Assumes nothing.
use Rattle.std.specs.Prelude.{cond, List, [], ◌∷◌, ◌++◌, ℕ, zero, suc, ◌+◌, ◌*◌, ◌/◌, eqb, length, get_or}
use Rattle.plate.specs.Total.{total}
use Rattle.plate.specs.Plate.{plates}
use Rattle.answers.specs.Printed.{spaces, number}

-- "a heading line with the window's two times, each 15 columns, ten spaces between"
unfoldable pub heading : ℕ → ℕ → List ℕ
heading t1 t2 = number 15 t1 ++ spaces 10 ++ number 15 t2

-- "percentage rounded down"; "With a total of zero every percentage is zero."
unfoldable pub percentage : ℕ → ℕ → ℕ
percentage count all = cond (eqb all 0) 0 (100 * count / all)

-- "plate in 4 columns, count in 9, percentage rounded down in 5, the rest spaces"
unfoldable pub plate_line : ℕ → ℕ → ℕ → List ℕ
plate_line all plate count = number 4 plate ++ number 9 count ++ number 5 (percentage count all) ++ spaces 22

-- "one line for each plate, heaviest first": of n plates
unfoldable pub plate_lines : List ℕ → ℕ → List (List ℕ)
plate_lines counts zero = []
plate_lines counts (suc n) = plate_line (total counts) n (get_or counts n 0) ∷ plate_lines counts n

-- "last a total in columns 5 to 13"
unfoldable pub total_line : ℕ → List ℕ
total_line all = spaces 4 ++ number 9 all ++ spaces 27

-- the page of a window and its counts, line by line
unfoldable pub page_lines : ℕ → ℕ → List ℕ → List (List ℕ)
page_lines t1 t2 counts = heading t1 t2 ∷ (plate_lines counts (length counts) ++ (total_line (total counts) ∷ []))

-- lines one after another, a line feed (10) after each
unfoldable pub text_of : List (List ℕ) → List ℕ
text_of [] = []
text_of (l ∷ ls) = l ++ (10 ∷ []) ++ text_of ls

-- the bytes of a page: the heading, a line for each plate and the total, each with its line feed
abbrev pub page_bytes : ℕ
page_bytes = 41 * (plates + 2)

-- the page
unfoldable pub page_of : ℕ → ℕ → List ℕ → List ℕ
page_of t1 t2 counts = text_of (page_lines t1 t2 counts)
