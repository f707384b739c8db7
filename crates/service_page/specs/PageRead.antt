-- The service page read from its characters (document 02, W-201): "every line of the page has 40 characters and the counts printed are
-- the tally's and add up to the total". Assumes nothing.
use Rattle.std.specs.Prelude.{◌≡◌, false, List, [], ◌∷◌, ◌++◌, map, ℕ, ◌+◌, ◌-◌, ◌≤◌, ◌<◌, length, get_or, take, drop}
use Rattle.codec.specs.Area.{part}
use Rattle.plate.specs.Total.{total}
use Rattle.lines.specs.declared.Field.TheVariants.{Digits}
use Rattle.lines.specs.Columns.{field_in, value_of}
use Rattle.answers.specs.Printed.{digits, spaces}
use Rattle.service_page.specs.Page.{percentage}

-- every line has n characters
abbrev pub EachLong : ℕ → List (List ℕ) → Type 0
EachLong n [] = Unit {0}
EachLong n (l ∷ ls) = (length l ≡ n) × EachLong n ls

-- the n columns of a line from `at` on hold the number v: no digit is left out, it is right-justified, and it reads back
pub record Holds (line : List ℕ) (at n v : ℕ) : Type 0 where
  pub fits : length (digits v) ≤ n
  pub justified : part line at n ≡ spaces (n - length (digits v)) ++ digits v
  pub reads : field_in (part line at n) ≡ Digits false v

-- the number in columns 5 to 13 of a line: a count, or the total
abbrev pub count_in : List ℕ → ℕ
count_in line = value_of (field_in (part line 4 9))

-- the lines between the first and the last
abbrev pub between : List (List ℕ) → List (List ℕ)
between page = take (length page - 2) (drop 1 page)

-- the line of a plate on a page of k plates: the heaviest is on the line after the heading
abbrev pub plate_line_of : List (List ℕ) → ℕ → ℕ → List ℕ
plate_line_of page k plate = get_or page (k - plate) []

-- what a page of these counts shows
pub record Shows (page : List (List ℕ)) (t1 t2 : ℕ) (counts : List ℕ) : Type 0 where
  pub width : EachLong 40 page
  pub lines : length page ≡ length counts + 2
  pub from : Holds (get_or page 0 []) 0 15 t1
  pub to : Holds (get_or page 0 []) 25 15 t2
  pub plate : (n : ℕ) → n < length counts → Holds (plate_line_of page (length counts) n) 0 4 n
  pub count : (n : ℕ) → n < length counts → Holds (plate_line_of page (length counts) n) 4 9 (get_or counts n 0)
  pub share : (n : ℕ) → n < length counts → Holds (plate_line_of page (length counts) n) 13 5 (percentage (get_or counts n 0) (total counts))
  pub all : Holds (get_or page (length counts + 1) []) 4 9 (total counts)
  pub adds_up : total (map count_in (between page)) ≡ count_in (get_or page (length counts + 1) [])
