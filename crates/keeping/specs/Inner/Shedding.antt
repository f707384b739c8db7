-- The counts after a forced drop as they are read, before anything is written. Assumes nothing.
use Rattle.std.specs.Prelude.{◌≡◌, Bool, cond, List, ℕ, ◌+◌, eqb, length}
use Rattle.std.proofs.Math.Option.{Option, some}
use Rattle.flash.specs.Chip.{slot_of}
use Rattle.form.specs.declared.Form.TheVariants.{New}
use Rattle.store.specs.declared.State.{State}
use Rattle.counts.specs.Counts.{without_segment}

-- the open serial then: a close comes first where the open segment has lifts
abbrev pub open_then : ℕ → ℕ → ℕ
open_then current count = cond (eqb count 0) current (current + 1)

abbrev pub shed_from : List ℕ → ℕ → ℕ → ℕ → ℕ → List ℕ → Option (List ℕ)
shed_from nand slots oldest current count counts = without_segment New nand slots (slot_of oldest slots) (open_then current count) counts

-- if a drop is forced
abbrev pub shed_if : Bool → List ℕ → ℕ → ℕ → ℕ → ℕ → List ℕ → Option (List ℕ)
shed_if drops nand slots oldest current count counts = cond drops (shed_from nand slots oldest current count counts) (some counts)

-- heads and buffers of their lengths, as every state's are
pub record Whole (s : State) : Type 0 where
  pub heads_four : length s.heads ≡ 4
  pub page_size : length s.page ≡ 512
  pub bloom_size : length s.bloom ≡ 128
