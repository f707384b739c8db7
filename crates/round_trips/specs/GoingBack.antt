-- When a store of form 1 can go back to form 0 (document 02, W-203, ground 14), by the lifts of its paper log and the pointers in its
-- bytes. Assumes nothing.
use Rattle.std.specs.Prelude.{◌≡◌, true, false, List, [], ◌∷◌, map, ℕ, ◌≤◌, ◌<◌, get_or}
use Rattle.header.specs.Header.{pointers_from}
use Rattle.form.specs.declared.Form.TheVariants.{Old, New}
use Rattle.skiplist.specs.declared.Pointer.{Pointer}
use Rattle.skiplist.specs.Skip.{none, is_none, is_live, serials_from, levels}
use Rattle.skiplist.specs.PointerBytes.{pointers_at}
use Rattle.store.specs.World.{World}
use Rattle.paper_log.specs.Log.{Lift, Log, retained}
use Rattle.carry.specs.Carried.{header_of}
use Rattle.retained.specs.Retained.{rises}
use Rattle.round_trips.specs.InForm.{log_into}

-- the times of all retained lifts, in order of arrival
abbrev pub times_of : List Lift → List ℕ
times_of ls = map (λ l. l.time) ls

-- "the start of the oldest retained lift, or next time if there is none", next time being that of form 0
abbrev pub first_of : List Lift → ℕ → ℕ
first_of [] next = next
first_of (l ∷ ls) next = l.time

abbrev pub oldest_live : Log → ℕ
oldest_live g = first_of (retained g) (log_into Old g).next

-- the pointers of a store: the four heads, and four in the header of every retained closed segment
pub data PointerIn (w : World) (slots : ℕ) : Pointer → Type 0 where
  head : (k : ℕ) → k < levels → PointerIn w slots (get_or w.state.heads k none)
  in_header : (n k : ℕ) → w.state.oldest ≤ n → n < w.state.current → k < levels
      → PointerIn w slots (get_or (pointers_at New (header_of w.nand slots n) pointers_from) k none)

-- each retained lift is later than the one before it, and each pointer that is neither none nor live is earlier than the oldest live
-- time
pub record CanGoBack (w : World) (g : Log) : Type 0 where
  pub rising : rises (times_of (retained g)) ≡ true
  pub earlier : (p : Pointer) → PointerIn w g.slots p → is_none p ≡ false → is_live p (serials_from w.state.oldest) ≡ false
      → p.time < oldest_live g
