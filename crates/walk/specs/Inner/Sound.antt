-- What a search relies on from segment to segment: pointers in their slots, serials not above the open one. Assumes nothing.
use Rattle.std.specs.Prelude.{◌≡◌, true, false, ℕ, ◌≤◌}
use Rattle.skiplist.specs.Skip.{in_slots}
use Rattle.visit.specs.declared.Log.{Log}
use Rattle.walk.specs.declared.Cursor.{Cursor}

-- a cursor that is not at its end points to a slot, or to none
abbrev pub Sound : ℕ → Cursor → Type 0
Sound slots c = c.last ≡ false → in_slots c.next slots ≡ true

-- a cursor where the closed segments begin: its serial is not above the open one
pub record Begun (g : Log) (c : Cursor) : Type 0 where
  pub sound : Sound g.slots c
  pub before_most : c.good ≡ true → c.before ≤ g.current
