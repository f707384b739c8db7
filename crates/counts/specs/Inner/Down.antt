-- What a count down gives, as the code has it: the counts, or none where there is damage. Assumes nothing.
use Rattle.std.specs.Prelude.{List, ℕ, Some, None}
use Rattle.std.specs.Prelude as Code
use Rattle.std.proofs.Math.Option.{Option, none, some}

abbrev pub down_of : Code.Option (List ℕ) → Option (List ℕ)
down_of None = none
down_of (Some counts) = some counts
