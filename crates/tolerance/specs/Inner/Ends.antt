-- Certain and possible loads as the code compares them: stored numbers between two ends. Assumes nothing.
use Rattle.std.specs.Prelude.{Bool, ◌&&◌, List, ℕ, ◌+◌, ◌-◌, leb}
use Rattle.codec.specs.Lists.{chosen}
use Rattle.lift.specs.Record.{code_at}
use Rattle.tolerance.specs.declared.Ends.{Ends}

-- a stored load from one end to the other
abbrev pub in_ends : Ends → ℕ → Bool
in_ends e code = leb e.low code && leb code e.high

-- the ends narrowed by d: no load lies between them where they have crossed
abbrev pub narrowed_ends : ℕ → ℕ → ℕ → Ends
narrowed_ends low high d = record { low = low + d; high = high - d }

-- the rows whose loads lie between the ends
abbrev pub rows_in_ends : Ends → List (List ℕ) → List (List ℕ)
rows_in_ends e rows = chosen (λ r. in_ends e (code_at r 0)) rows
