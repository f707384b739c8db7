-- Both lists counted, certain rows lying between two ends, and the answer as the code has it. Assumes nothing.
use Rattle.std.specs.Prelude.{◌≡◌, List, ℕ, length, Result, Ok, Err}
use Rattle.std.proofs.Math.Option.{Option, some}
use Rattle.grounds.specs.declared.Ground.{Ground}
use Rattle.grounds.specs.Numbers.{number_of}
use Rattle.tolerance.specs.declared.Ends.{Ends}
use Rattle.tolerance.specs.Inner.Ends.{rows_in_ends}
use Rattle.tolerant.specs.declared.pieces.Both.{Both}
use Rattle.tolerant.specs.Answers.{TolerantAnswer, refused_both}

-- rows without damage, so many, and so many of them between the ends
pub record CountsBoth (e : Ends) (o : Option (List (List ℕ))) (n : Both) : Type 0 where
  pub rows : List (List ℕ)
  pub are : o ≡ some rows
  pub certain : n.certain ≡ length (rows_in_ends e rows)
  pub possible : n.possible ≡ length rows

-- what a piece of the call hands back, with both areas after it
abbrev pub answered : Result Both Ground → List ℕ → List ℕ → TolerantAnswer
answered (Ok n) certain_area possible_area =
    record {
      number = 0;
      certain = n.certain;
      possible = n.possible;
      certain_area = certain_area;
      possible_area = possible_area;
    }
answered (Err g) certain_area possible_area = refused_both (number_of g) certain_area possible_area
