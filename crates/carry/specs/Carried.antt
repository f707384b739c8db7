-- What is carried into the other form (document 02, W-203), for any chips and any state. Both directions share it: `f` is the form
-- that a store is carried into. Assumes nothing.
use Rattle.std.specs.Prelude.{cond, ◌&&◌, List, [], ◌∷◌, ◌++◌, ℕ, zero, suc, ◌+◌, ◌-◌, ◌*◌, ◌/◌, ◌^◌, eqb, ltb, length}
use Rattle.codec.specs.Area.{part, splice, repeated}
use Rattle.codec.specs.Number.{number_at}
use Rattle.flash.specs.Chip.{slot_of, page_of, chip_erased, page_width, slot_width, header_last}
use Rattle.form.specs.declared.Form.{Form}
use Rattle.form.specs.declared.Form.TheVariants.{Old, New}
use Rattle.skiplist.specs.declared.Pointer.{Pointer}
use Rattle.skiplist.specs.Skip.{pointer, is_none}
use Rattle.skiplist.specs.PointerBytes.{pointers_bytes, pointers_at}
use Rattle.header.specs.Header.{form_bytes, pointers_from, tail_width}
use Rattle.store.specs.declared.State.{State}
use Rattle.store.specs.World.{World, live_time}

-- the form that it is carried from
abbrev pub other : Form → Form
other Old = New
other New = Old

-- ---- pointers

-- "the largest multiple of 2 to the power i−1 below n", for level i = k + 1
abbrev pub multiple_below : ℕ → ℕ → ℕ
multiple_below n k = (n - 1) / 2 ^ k * 2 ^ k

-- "An old pointer, none apart, at level i of segment n gets" that serial; none gets serial 0. Going back a pointer loses its serial.
unfoldable pub pointer_into : Form → ℕ → ℕ → Pointer → Pointer
pointer_into Old n k p = pointer p.slot 0 p.time
pointer_into New n k p = pointer p.slot (cond (is_none p) 0 (multiple_below n k)) p.time

-- pointers of segment n, from level k + 1 on
unfoldable pub pointers_into : Form → ℕ → ℕ → List Pointer → List Pointer
pointers_into f n k [] = []
pointers_into f n k (p ∷ ps) = pointer_into f n k p ∷ pointers_into f n (suc k) ps

-- ---- NAND

-- the header page of serial n
abbrev pub header_of : List ℕ → ℕ → ℕ → List ℕ
header_of nand slots n = page_of nand (slot_of n slots) header_last

-- "headers are written anew, other fields kept, unused bytes 0"
unfoldable pub header_into : Form → ℕ → List ℕ → List ℕ
header_into f n h =
    part h 0 10 ++ (form_bytes f ++ (part h 16 24
    ++ (pointers_bytes f (pointers_into f n 0 (pointers_at (other f) h pointers_from)) ++ repeated (tail_width f) 0)))

-- the slot of closed serial n: pages 0 to 30 as they are, then the header
unfoldable pub slot_into : Form → List ℕ → ℕ → ℕ → List ℕ
slot_into f nand s n = part nand (s * slot_width) (header_last * page_width) ++ header_into f n (page_of nand s header_last)

-- m closed segments from serial n on, into the chip `to`
unfoldable pub closed_into : Form → ℕ → ℕ → List ℕ → ℕ → List ℕ → List ℕ
closed_into f zero n nand slots to = to
closed_into f (suc m) n nand slots to =
    closed_into f m (suc n) nand slots (splice to (slot_of n slots * slot_width) (slot_into f nand (slot_of n slots) n))

-- an erased chip with the open serial's slot as it is
abbrev pub open_into : List ℕ → ℕ → ℕ → List ℕ
open_into nand slots current =
    splice (chip_erased (length nand)) (slot_of current slots * slot_width) (part nand (slot_of current slots * slot_width) slot_width)

-- "Retained closed segments, the open one and NOR are carried; every other slot is erased." Where S segments are closed the open
-- serial's slot is the oldest one's, whose new header goes over it.
unfoldable pub nand_into : Form → World → ℕ → List ℕ
nand_into f w slots =
    closed_into f (w.state.current - w.state.oldest) w.state.oldest w.nand slots (open_into w.nand slots w.state.current)

-- ---- the state

-- "Next time moves by one, but stays 0 while open is 1 and count 0": form 0's next time is one past form 1's
abbrev pub next_into : Form → ℕ → ℕ → ℕ → ℕ
next_into Old current count next = cond (eqb current 1 && eqb count 0) 0 (next + 1)
next_into New current count next = next - 1

-- "for the heads n is the open serial"; all but heads and next time is kept
unfoldable pub state_into : Form → State → State
state_into f s = record {
  oldest = s.oldest;
  current = s.current;
  count = s.count;
  buckets = s.buckets;
  next = next_into f s.current s.count s.next;
  heads = pointers_into f s.current 0 s.heads;
  loads = s.loads;
  page = s.page;
  bloom = s.bloom;
  start = s.start;
  low = s.low;
  high = s.high;
}

-- the oldest live time after it: "the start of the oldest retained lift, or next time if there is none", by the oldest retained
-- closed header, else by the state
unfoldable pub first_time : Form → World → ℕ → ℕ
first_time f w slots =
    cond (ltb w.state.oldest w.state.current) (number_at (header_of w.nand slots w.state.oldest) 16 8)
    (cond (eqb w.state.count 0) (next_into f w.state.current w.state.count w.state.next) w.state.start)

-- ---- the store

unfoldable pub world_into : Form → World → ℕ → World
world_into f w slots = record {
  form = f;
  nand = nand_into f w slots;
  nor = w.nor;
  state = state_into f w.state;
  live = live_time f (first_time f w slots);
}
