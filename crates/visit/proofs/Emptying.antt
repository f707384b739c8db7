-- Where the record of a place of a set lies. Assumes nothing.
use mathlib.Core.List.{List}
use Prim.Native.Nat.{ℕ, ◌+◌, ◌-◌, ◌*◌, ◌≤◌, ◌<◌}
use native.Mathlib.Omega.{arith}
use lib.ListN.{length}
use Rattle.sweep.specs.declared.Records.{Records}
use Rattle.sweep.specs.Inner.Swept.{Recorded}

-- the record of a lift's place lies within the areas
pub recorded_at : (lifts tail : List ℕ) (g : Records) (p : ℕ) → Recorded lifts tail g → p < g.count
    → (p * 32 + 32 ≤ length lifts) × ((p - g.first) * 32 + 32 ≤ length tail)
recorded_at lifts tail g p r h = (omega arith, omega arith)
