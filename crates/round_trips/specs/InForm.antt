-- The paper log of a store that was carried into the other form, and how next time moves (document 02, W-203). Assumes nothing.
use Rattle.std.specs.Prelude.{◌≡◌, ℕ, ◌+◌, length}
use Rattle.form.specs.declared.Form.{Form}
use Rattle.paper_log.specs.Log.{Log, open_serial}
use Rattle.carry.specs.Carried.{next_into}

-- the same lifts under the same serials; next time as that form has it
abbrev pub log_into : Form → Log → Log
log_into f g = record {
  form = f;
  slots = g.slots;
  oldest = g.oldest;
  closed = g.closed;
  current = g.current;
  next = next_into f (open_serial g) (length g.current) g.next;
}

-- next times of one store in form 0 and in form 1: "Next time moves by one, but stays 0 while open is 1 and count 0."
pub record NextMoves (current count old new : ℕ) : Type 0 where
  pub fresh : current ≡ 1 → count ≡ 0 → (old ≡ 0) × (new ≡ 0)
  pub moved : ((current ≡ 1) × (count ≡ 0) → ⊥) → new + 1 ≡ old
