-- The answer of a search (document 01, "Search", grounds 10 and 12). Assumes nothing.
use Rattle.std.specs.Prelude.{cond, List, [], ◌∷◌, ◌++◌, ℕ, ltb, length, Result, Ok, Err}
use Rattle.std.proofs.Math.Option.{Option, none, some}
use Rattle.codec.specs.Area.{splice}
use Rattle.lift.specs.Rows.{whole_rows}
use Rattle.grounds.specs.declared.Ground.{Ground}
use Rattle.grounds.specs.Numbers.{number_of}
use Rattle.found.specs.declared.Pages.{Pages}
use Rattle.found.specs.Pages.{no_pages}
use Rattle.search.specs.declared.Found.{Found}

-- rows side by side
unfoldable pub row_bytes : List (List ℕ) → List ℕ
row_bytes [] = []
row_bytes (r ∷ rs) = r ++ row_bytes rs

-- number, count, pages read (W-207) and result area
pub record SearchAnswer : Type 0 where
  pub number : ℕ
  pub count : ℕ
  pub pages : Pages
  pub area : List ℕ

-- a refusal
abbrev pub refused_answer : ℕ → List ℕ → SearchAnswer
refused_answer n area = record { number = n; count = 0; pages = no_pages; area = area }

-- what a call hands back, beside the area as it leaves it
abbrev pub answer_of : Result Found Ground → List ℕ → SearchAnswer
answer_of (Ok f) area = record { number = 0; count = f.count; pages = f.pages; area = area }
answer_of (Err g) area = refused_answer (number_of g) area

-- "10. Damage is met." "12. The lifts found outnumber the whole 32-byte rows of the result area." "the rows go out as records ..;
-- the rest of the result area keeps its bytes"
unfoldable pub search_answer : List ℕ → Pages → Option (List (List ℕ)) → SearchAnswer
search_answer area pages none = refused_answer 10 area
search_answer area pages (some rows) =
    cond (ltb (whole_rows area) (length rows))
    (refused_answer 12 area)
    (record { number = 0; count = length rows; pages = pages; area = splice area 0 (row_bytes rows) })
