-- The turns of the tally's loops: lifts counted by plate, one after the other and segment by segment, the newest first. Assumes nothing.
use Rattle.std.specs.Prelude.{List, [], ◌∷◌, ℕ, ◌≤◌, get_or, Result, Ok, Err}
use Rattle.std.proofs.Math.Option.{Option, none, some}
use Rattle.grounds.specs.declared.Ground.{Ground}
use Rattle.grounds.specs.declared.Ground.TheVariants.{Damage}
use Rattle.plate.specs.Inner.Counted.{counted_in}
use Rattle.tally.specs.Answers.{row_codes}

-- the counts with these stored loads, one after the other
unfoldable pub counted_all : List ℕ → List ℕ → List ℕ
counted_all counts [] = counts
counted_all counts (code ∷ codes) = counted_all (counted_in counts code) codes

-- the counts with rows; none stands for damage
abbrev pub tally_of : List ℕ → Option (List (List ℕ)) → Result (List ℕ) Ground
tally_of counts none = Err Damage
tally_of counts (some rows) = Ok (counted_all counts (row_codes rows))

-- no count is above n
abbrev pub NoneAbove : ℕ → List ℕ → Type 0
NoneAbove n counts = (i : ℕ) → get_or counts i 0 ≤ n
