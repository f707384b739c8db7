-- What an append over areas relies on once no ground refuses it. Assumes nothing.
use Rattle.std.specs.Prelude.{◌≡◌, Bool, true, false, not, ◌&&◌, List, ℕ, ℤ, length}
use Rattle.std.specs.declared.option.Option.{Option}
use Rattle.std.specs.declared.option.Option.TheVariants.{None, Some}
use Rattle.std.specs.declared.result.Result.{Result}
use Rattle.grounds.specs.declared.Ground.{Ground}
use Rattle.grounds.specs.Numbers.{number_in}
use Rattle.grow.specs.declared.Plan.{Plan}
use Rattle.store.specs.World.{World, world}
use Rattle.store.specs.Calls.{plan_of, room_world, drops_first, append_ground}
use Rattle.store.specs.Inner.Pieces.{Accepted, entry_ground}
use Rattle.counts.specs.Counts.{counts_broken}
use Rattle.counts.specs.CountsBytes.{counts_length, counts_in}
use Rattle.form.specs.declared.Form.TheVariants.{New}
use Rattle.state_bytes.specs.StateBytes.{state_in, area_length}
use Rattle.areas.specs.Areas.{Left, left, append_called}

-- the area has its length, no ground holds, and the plan is the paper's
pub record Appending (area nand nor : List ℕ) (slots time : ℕ) (load : ℤ) (p : Plan) : Type 0 where
  pub size : length area ≡ area_length New
  pub none : 0 ≡ append_ground (world nand nor (state_in area)) slots time load
  pub accepted : Accepted (world nand nor (state_in area)) slots time load p

-- a forced drop is due
abbrev pub drops_due : World → ℕ → ℤ → Bool
drops_due w slots load = drops_first (room_world w slots (plan_of w load)).state slots

-- the number of an append that went on; one that stopped before a drop has none, and 255 stands for it
abbrev pub number_or_stop : {A : Type 0} → Option (Result A Ground) → ℕ
number_or_stop None = 255
number_or_stop (Some r) = number_in r

-- past grounds 1 to 8: it stops before such a drop where it may not drop, and says so by 255; else it is the plain append
pub record GoesOn (may_drop : Bool) (area nand nor : List ℕ) (slots time : ℕ) (load : ℤ) (note : List ℕ) (l : Left) : Type 0 where
  pub stopped : l.number ≡ 255 → ((not may_drop && drops_due (world nand nor (state_in area)) slots load) ≡ true) × (l ≡ left 255 area nand nor)
  pub gone : (l.number ≡ 255 → ⊥) → ((not may_drop && drops_due (world nand nor (state_in area)) slots load) ≡ false)
      × (l ≡ append_called area nand nor slots time load note)

-- an append that keeps counts, once grounds 1 to 8 do not refuse it
pub record Counting (area counts nand nor : List ℕ) (slots time : ℕ) (load : ℤ) : Type 0 where
  pub size : length area ≡ area_length New
  pub counts_size : length counts ≡ counts_length
  pub entered : entry_ground (state_in area) (length nand) (length nor) slots time load ≡ 0
  pub unbroken : counts_broken (counts_in counts) ≡ false

-- and a drop comes first
pub record Shedding (area counts nand nor : List ℕ) (slots time : ℕ) (load : ℤ) : Type 0 where
  pub counting : Counting area counts nand nor slots time load
  pub due : drops_due (world nand nor (state_in area)) slots load ≡ true
