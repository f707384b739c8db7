-- The fields of a state that an append's plan and its grounds 10 and 11 go by. Assumes nothing.
use Rattle.std.specs.Prelude.{◌≡◌, true, List, ℕ, ◌*◌, ◌≤◌, length}
use Rattle.flash.specs.Chip.{slot_width, nor_width}
use Rattle.lift.specs.Rows.{lifts_most}
use Rattle.tree.specs.Rules.{buckets_most}
use Rattle.bounds.specs.Bounds.{loads_ok}
use Rattle.store.specs.declared.State.{State}
use Rattle.store.specs.declared.fields.Fields.{Fields}

abbrev pub fields_of : State → Fields
fields_of s = record { oldest = s.oldest; current = s.current; count = s.count; buckets = s.buckets; loads = s.loads }

-- what the grounds before them give: chips of their size, and fields within their bounds
pub record Sized (nand nor : List ℕ) (slots : ℕ) (f : Fields) : Type 0 where
  pub nand_size : length nand ≡ slots * slot_width
  pub nor_size : length nor ≡ nor_width
  pub slots_some : 1 ≤ slots
  pub current_some : 1 ≤ f.current
  pub rising : f.oldest ≤ f.current
  pub most : f.count ≤ lifts_most
  pub buckets_most_lem : f.buckets ≤ buckets_most
  pub loads_ok_lem : loads_ok f.loads ≡ true
