-- What a search relies on in a segment: the sizes of the areas, and pointers and counts within their bounds. Assumes nothing.
use Rattle.std.specs.Prelude.{◌≡◌, true, List, ℕ, ◌+◌, ◌*◌, ◌≤◌, length, get_or}
use Rattle.tree.specs.Rules.{buckets_most}
use Rattle.flash.specs.Chip.{slot_width, nor_width}
use Rattle.lift.specs.Rows.{in_full_pages, lifts_most}
use Rattle.skiplist.specs.declared.Pointer.{Pointer}
use Rattle.skiplist.specs.Skip.{none, in_slots}
use Rattle.sweep.specs.declared.Records.{Records}
use Rattle.visit.specs.declared.Closed.{Closed}
use Rattle.visit.specs.declared.Log.{Log}

-- "head slots below S, or 65,535 for none"
abbrev pub InSlots : ℕ → List Pointer → Type 0
InSlots slots ps = (k : ℕ) → in_slots (get_or ps k none) slots ≡ true

-- a closed segment to be searched
pub record ClosedSound (nand : List ℕ) (s : Closed) : Type 0 where
  pub inside : s.slot * slot_width + slot_width ≤ length nand
  pub most : s.count ≤ lifts_most
  pub buckets_most_lem : s.buckets ≤ buckets_most

-- the chips, and what the state's bounds give of the open segment and the heads
pub record LogSound (nand nor : List ℕ) (g : Log) : Type 0 where
  pub nand_size : length nand ≡ g.slots * slot_width
  pub nor_size : length nor ≡ nor_width
  pub slots_some : 1 ≤ g.slots
  pub current_some : 1 ≤ g.current
  pub most : g.count ≤ lifts_most
  pub buckets_most_lem : g.buckets ≤ buckets_most
  pub heads_in : InSlots g.slots g.heads

-- where the records of a closed segment stand, and those of the open one
abbrev pub closed_records : Closed → Records
closed_records s = record { count = s.count; buckets = s.buckets; first = lifts_most }

abbrev pub open_records : Log → Records
open_records g = record { count = g.count; buckets = g.buckets; first = in_full_pages g.count }
