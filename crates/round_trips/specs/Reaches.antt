-- The stores that an accepted format, calls and accepted conversions lead to, each with the paper log of its lifts (document 02, W-203:
-- "stores reached from a format"). Assumes nothing.
use Rattle.std.specs.Prelude.{◌≡◌, List, ℕ, ◌*◌, length}
use Rattle.flash.specs.Chip.{slot_width, nor_width}
use Rattle.form.specs.declared.Form.{Form}
use Rattle.store.specs.World.{World}
use Rattle.store.specs.Calls.{format_outcome}
use Rattle.paper_log.specs.Log.{Log, begun}
use Rattle.paper_log.specs.Calls as Paper
use Rattle.refinement.specs.Run.{Request, call_of, world_after, Typed}
use Rattle.carry.specs.Carried.{other}
use Rattle.conversion.specs.Outcome.{carry_outcome}
use Rattle.round_trips.specs.InForm.{log_into}

-- chips of S slots, whatever they hold
pub record Chips (slots : ℕ) (nand nor : List ℕ) : Type 0 where
  pub nand_size : length nand ≡ slots * slot_width
  pub nor_size : length nor ≡ nor_width

-- a call is one of the store's own form; it may be refused, and it may name another S
pub data Reaches (slots : ℕ) : World → Log → Type 0 where
  formatted : (v : Form) (nand nor : List ℕ) → Chips slots nand nor → Reaches slots (format_outcome v nand nor slots).world (begun v slots)
  called : {w : World} {g : Log} → Reaches slots w g → (r : Request) → Typed r → Reaches slots (world_after w r) (Paper.stepped g (call_of r))
  carried : {w : World} {g : Log} → Reaches slots w g → (f : Form) → w.form ≡ other f → (nand nor : List ℕ) → Chips slots nand nor
      → (carry_outcome f w slots nand nor).number ≡ 0 → Reaches slots (carry_outcome f w slots nand nor).world (log_into f g)
