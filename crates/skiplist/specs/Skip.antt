-- The skip list (document 01, "Bloom and skip list"): pointers, a segment's level, its node, and the heads after it. Assumes nothing.
use Rattle.std.specs.Prelude.{Bool, not, ◌&&◌, ◌||◌, List, ◌++◌, ℕ, ◌+◌, ◌-◌, min, eqb, leb, ltb, take, drop, replicate}
use Rattle.std.specs.Int.Count.{count_trailing_zeros}
use Rattle.form.specs.declared.Form.{Form}
use Rattle.form.specs.declared.Form.TheVariants.{Old, New}
use Rattle.form.specs.Forms.{serial_in}
use Rattle.skiplist.specs.declared.Pointer.{Pointer}

-- a pointer is slot, serial and start time
abbrev pub pointer : ℕ → ℕ → ℕ → Pointer
pointer slot serial time = record { slot = slot; serial = serial; time = time }

-- the pointer to the segment of a serial; form 0 leaves the serial out
abbrev pub pointing : Form → ℕ → ℕ → ℕ → Pointer
pointing f slot serial time = pointer slot (serial_in f serial) time

-- none is slot 65,535, serial 0, time 0
abbrev pub no_slot : ℕ
no_slot = 65535

abbrev pub none : Pointer
none = pointer no_slot 0 0

-- a pointer is none by its slot alone
abbrev pub is_none : Pointer → Bool
is_none p = eqb p.slot no_slot

-- what liveness goes by: the start time in form 0, the serial in form 1
abbrev pub age_of : Form → Pointer → ℕ
age_of Old p = p.time
age_of New p = p.serial

-- what a pointer's liveness is judged by: the form, and the oldest live time or the oldest retained serial
pub record Live : Type 0 where
  pub form : Form
  pub oldest : ℕ

-- in form 1
abbrev pub serials_from : ℕ → Live
serials_from oldest = record { form = New; oldest = oldest }

-- live: it isn't none and its time (form 0) or its serial (form 1) is at least the oldest
abbrev pub is_live : Pointer → Live → Bool
is_live p live = not (is_none p) && leb live.oldest (age_of live.form p)

-- its slot is below S, or it is none
abbrev pub in_slots : Pointer → ℕ → Bool
in_slots p slots = is_none p || ltb p.slot slots

-- "four skip heads"
abbrev pub levels : ℕ
levels = 4

-- a segment's level: 1 plus the trailing zero bits of its serial, at most 4
unfoldable pub level_of : ℕ → ℕ
level_of serial = min levels (1 + count_trailing_zeros 32 serial)

-- its node copies that many heads, the others none
unfoldable pub node_of : List Pointer → ℕ → List Pointer
node_of heads level = take level heads ++ replicate (levels - level) none

-- those heads then point to it
unfoldable pub heads_after : List Pointer → ℕ → Pointer → List Pointer
heads_after heads level p = replicate level p ++ drop level heads

-- the heads at first: all none
abbrev pub no_heads : List Pointer
no_heads = replicate levels none
