-- The answer of a tolerant search (document 02, W-209; grounds 10 and 12). Assumes nothing.
use Rattle.std.specs.Prelude.{cond, ◌||◌, List, ℕ, ltb, length}
use Rattle.std.proofs.Math.Option.{Option, none, some}
use Rattle.codec.specs.Area.{splice}
use Rattle.lift.specs.Rows.{whole_rows}
use Rattle.search.specs.Answers.{row_bytes}

-- number; "two lists with their counts", each in its own area
pub record TolerantAnswer : Type 0 where
  pub number : ℕ
  pub certain : ℕ
  pub possible : ℕ
  pub certain_area : List ℕ
  pub possible_area : List ℕ

-- a refusal
abbrev pub refused_both : ℕ → List ℕ → List ℕ → TolerantAnswer
refused_both n certain_area possible_area =
    record { number = n; certain = 0; possible = 0; certain_area = certain_area; possible_area = possible_area }

-- "Ground 12 is met if either list outnumbers its area"; the rest of each area keeps its bytes
abbrev pub listed_both : List ℕ → List ℕ → List (List ℕ) → List (List ℕ) → TolerantAnswer
listed_both certain_area possible_area certain possible =
    cond (ltb (whole_rows certain_area) (length certain) || ltb (whole_rows possible_area) (length possible))
    (refused_both 12 certain_area possible_area)
    (record {
      number = 0;
      certain = length certain;
      possible = length possible;
      certain_area = splice certain_area 0 (row_bytes certain);
      possible_area = splice possible_area 0 (row_bytes possible);
    })

-- both lists come from the rows of one search, the certain ones in this way; none stands for damage
unfoldable pub tolerant_answer : (List (List ℕ) → List (List ℕ)) → List ℕ → List ℕ → Option (List (List ℕ)) → TolerantAnswer
tolerant_answer certainOf certain_area possible_area none = refused_both 10 certain_area possible_area
tolerant_answer certainOf certain_area possible_area (some rows) = listed_both certain_area possible_area (certainOf rows) rows
