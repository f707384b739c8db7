-- The state of either form as bytes, in the order of document 01's state list: "oldest retained serial, open serial, count, bucket
-- count, next time .., oldest live time .., four skip heads, last 13 loads of the open segment (oldest first), page buffer, Bloom
-- buffer, the open segment's start time, low and high load". Form 1: "the oldest live time leaves the state" (document 02, W-202);
-- "783 bytes, or 775 in form 0, which has heads of 10 and the oldest live time" (W-214). Little-endian, no gaps. Assumes nothing.
use Rattle.std.specs.Prelude.{List, [], ◌++◌, ℕ, ◌+◌, ◌*◌}
use Rattle.lift.specs.Limits.{loads_kept}
use Rattle.bloom.specs.Bloom.{section_width}
use Rattle.flash.specs.Chip.{page_width}
use Rattle.codec.specs.Area.{part}
use Rattle.codec.specs.Number.{bytes, number_at}
use Rattle.form.specs.declared.Form.{Form}
use Rattle.form.specs.declared.Form.TheVariants.{Old, New}
use Rattle.form.specs.Forms.{pointer_width}
use Rattle.skiplist.specs.PointerBytes.{pointers_bytes, pointers_at}
use Rattle.skiplist.specs.Skip.{levels}
use Rattle.store.specs.declared.OldState.{OldState}
use Rattle.store.specs.declared.State.{State}
use Rattle.loads.specs.Signed.{load_bytes, loads_bytes, load_at, loads_at}

-- ---- what the forms differ in

-- the oldest live time, which only form 0 has
abbrev pub live_width : Form → ℕ
live_width Old = 8
live_width New = 0

-- where the heads stand, 27 or 19, and the loads, 67 or 75; and the length, 775 or 783
abbrev pub heads_from : Form → ℕ
heads_from f = 19 + live_width f

abbrev pub loads_from : Form → ℕ
loads_from f = heads_from f + levels * pointer_width f

abbrev pub area_length : Form → ℕ
area_length f = loads_from f + 708

-- ---- a state as bytes

-- in form f, with the bytes of the oldest live time
unfoldable pub bytes_in : Form → List ℕ → State → List ℕ
bytes_in f live s =
    bytes 4 s.oldest ++ bytes 4 s.current ++ bytes 2 s.count ++ bytes 1 s.buckets ++ bytes 8 s.next ++ live
    ++ pointers_bytes f s.heads ++ loads_bytes s.loads ++ s.page ++ s.bloom ++ bytes 8 s.start ++ load_bytes s.low
    ++ load_bytes s.high

unfoldable pub state_bytes : State → List ℕ
state_bytes s = bytes_in New [] s

unfoldable pub old_state_bytes : OldState → List ℕ
old_state_bytes o = bytes_in Old (bytes 8 o.live) o.state

-- ---- the state in such an area

-- the fields of both forms
unfoldable pub state_as : Form → List ℕ → State
state_as f b =
    let at = loads_from f in
    record {
      oldest = number_at b 0 4;
      current = number_at b 4 4;
      count = number_at b 8 2;
      buckets = number_at b 10 1;
      next = number_at b 11 8;
      heads = pointers_at f b (heads_from f);
      loads = loads_at b at loads_kept;
      page = part b (at + 52) page_width;
      bloom = part b (at + 564) section_width;
      start = number_at b (at + 692) 8;
      low = load_at b (at + 700);
      high = load_at b (at + 704);
    }

unfoldable pub state_in : List ℕ → State
state_in b = state_as New b

unfoldable pub old_state_in : List ℕ → OldState
old_state_in b = record { state = state_as Old b; live = number_at b 19 8 }
