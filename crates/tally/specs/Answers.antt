-- The answer of a tally (document 01, "Plates", ground 10). Assumes nothing.
use Rattle.std.proofs.Math.Option.{Option, none, some}
use Rattle.std.specs.Prelude.{List, map, ℕ, Result, Ok, Err}
use Rattle.grounds.specs.declared.Ground.{Ground}
use Rattle.grounds.specs.Numbers.{number_of}
use Rattle.lift.specs.Record.{code_at}
use Rattle.plate.specs.Plate.{no_counts, counts_of}

-- the loads of rows, as stored
abbrev pub row_codes : List (List ℕ) → List ℕ
row_codes rows = map (λ r. code_at r 0) rows

-- number and 22 counts
pub record TallyAnswer : Type 0 where
  pub number : ℕ
  pub counts : List ℕ

-- what a call hands back
abbrev pub answer_of : Result (List ℕ) Ground → TallyAnswer
answer_of (Ok counts) = record { number = 0; counts = counts }
answer_of (Err g) = record { number = number_of g; counts = no_counts }

-- it "refuses as that would, ground 12 aside"
unfoldable pub tally_answer : Option (List (List ℕ)) → TallyAnswer
tally_answer none = record { number = 10; counts = no_counts }
tally_answer (some rows) = record { number = 0; counts = counts_of (row_codes rows) }
