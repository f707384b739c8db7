-- What a close, a drop and a lift that is put do to the chips and the state (document 01, "State", "Segments"), for any chips and
-- any state. Assumes nothing.
use Rattle.std.specs.Prelude.{Bool, cond, ◌&&◌, List, ℕ, ◌+◌, ◌-◌, ◌*◌, ◌/◌, ◌%◌, eqb, ltb, ℤ, pos, length}
use Rattle.codec.specs.Area.{splice}
use Rattle.flash.specs.Chip.{slot_of, page_of, programmed, slot_erased, chip_erased, erased_page, header_last, tree_width}
use Rattle.lift.specs.Limits.{stored}
use Rattle.lift.specs.Record.{record_bytes, record_width}
use Rattle.lift.specs.Rows.{lifts_per_page}
use Rattle.bloom.specs.Bloom.{noted, empty_section, lifts_per_section, section_width}
use Rattle.form.specs.declared.Form.{Form}
use Rattle.form.specs.declared.Form.TheVariants.{Old, New}
use Rattle.form.specs.Forms.{step}
use Rattle.skiplist.specs.Skip.{Live, pointing, level_of, heads_after}
use Rattle.header.specs.declared.Closing.{Closing}
use Rattle.header.specs.declared.Header.{Header}
use Rattle.header.specs.Header.{header_in}
use Rattle.segment.specs.Pages.{close_programmed}
use Rattle.tree.specs.Plan.{Plan}
use Rattle.tree.specs.Writes.{writes_of, all_written, buckets_after}
use Rattle.bounds.specs.Lifts.{no_loads, pushed, low_with, high_with}
use Rattle.store.specs.declared.OldState.{OldState}
use Rattle.store.specs.declared.State.{State}

-- a store of either form: both chips, the state and, in form 0, the oldest live time, which is 0 in form 1
pub record World : Type 0 where
  pub form : Form
  pub nand : List ℕ
  pub nor : List ℕ
  pub state : State
  pub live : ℕ

-- a store of form 1, which the calls are about
abbrev pub world : List ℕ → List ℕ → State → World
world nand nor s = record { form = New; nand = nand; nor = nor; state = s; live = 0 }

-- a store of form 0, which a machine in the field holds
abbrev pub old_world : List ℕ → List ℕ → OldState → World
old_world nand nor o = record { form = Old; nand = nand; nor = nor; state = o.state; live = o.live }

-- an oldest live time, which only form 0 has
abbrev pub live_time : Form → ℕ → ℕ
live_time Old t = t
live_time New t = 0

-- what a pointer's liveness is judged by: the oldest live time, or the oldest retained serial
abbrev pub least_by : Form → ℕ → ℕ → ℕ
least_by Old live oldest = live
least_by New live oldest = oldest

abbrev pub oldest_by : Form → ℕ → ℕ → Live
oldest_by f live oldest = record { form = f; oldest = least_by f live oldest }

abbrev pub liveness_of : World → Live
liveness_of w = oldest_by w.form w.live w.state.oldest

-- ---- close

-- what a close needs of the state: "The end time is next time less 1" in form 0, "next time" in form 1
unfoldable pub closing : Form → State → Closing
closing f s = record {
  form = f;
  serial = s.current;
  count = s.count;
  buckets = s.buckets;
  start = s.start;
  end = s.next - step f;
  low = stored s.low;
  high = stored s.high;
  heads = s.heads;
  page = s.page;
  bloom = s.bloom;
}

-- "A close leaves count, buckets, last loads, start, low and high 0, the page buffer 255 and the Bloom buffer 0"; it "moves on one
-- serial", and the heads up to its level point to the segment
unfoldable pub moved_on : Form → State → ℕ → State
moved_on f s slot = record {
  oldest = s.oldest;
  current = s.current + 1;
  count = 0;
  buckets = 0;
  next = s.next;
  heads = heads_after s.heads (level_of s.current) (pointing f slot s.current s.start);
  loads = no_loads;
  page = erased_page;
  bloom = empty_section;
  start = 0;
  low = pos 0;
  high = pos 0;
}

-- "Closing programs a part-filled lift page, tree, Bloom and header, erases NOR and moves on one serial."
unfoldable pub close_world : World → ℕ → World
close_world w slots = record {
  form = w.form;
  nand = close_programmed w.nand w.nor (slot_of w.state.current slots) (closing w.form w.state);
  nor = chip_erased (length w.nor);
  state = moved_on w.form w.state (slot_of w.state.current slots);
  live = w.live;
}

-- ---- drop

-- form 0: the header of the closed segment that becomes oldest, which a drop reads
abbrev pub next_oldest : World → ℕ → Header
next_oldest w slots = header_in w.form (page_of w.nand (slot_of (w.state.oldest + 1) slots) header_last) slots w.state.current

-- a closed segment becomes oldest, and not the open one
abbrev pub closed_remains : State → Bool
closed_remains s = ltb (s.oldest + 1) s.current

-- form 0: the oldest live time after a drop: "the start of the oldest retained lift, or next time if there is none"
unfoldable pub live_after : World → ℕ → ℕ
live_after w slots =
    live_time w.form
    (cond (closed_remains w.state) (next_oldest w slots).start (cond (eqb w.state.count 0) w.state.next w.state.start))

unfoldable pub without_oldest : State → State
without_oldest s = record {
  oldest = s.oldest + 1;
  current = s.current;
  count = s.count;
  buckets = s.buckets;
  next = s.next;
  heads = s.heads;
  loads = s.loads;
  page = s.page;
  bloom = s.bloom;
  start = s.start;
  low = s.low;
  high = s.high;
}

-- "Drop erases the oldest closed segment."
unfoldable pub drop_world : World → ℕ → World
drop_world w slots = record {
  form = w.form;
  nand = slot_erased w.nand (slot_of w.state.oldest slots);
  nor = w.nor;
  state = without_oldest w.state;
  live = live_after w slots;
}

-- ---- put

-- the page buffer with the lift's record
abbrev pub page_with : State → ℕ → ℤ → List ℕ → List ℕ
page_with s time load note = splice s.page (s.count % lifts_per_page * record_width) (record_bytes time (stored load) note)

-- the Bloom buffer with the lift's bits
abbrev pub bloom_with : State → ℤ → List ℕ
bloom_with s load = noted s.bloom (stored load)

-- the lift is the sixteenth of its page, the sixty-fourth of its section
abbrev pub fills_page : State → Bool
fills_page s = eqb (s.count % lifts_per_page) (lifts_per_page - 1)

abbrev pub fills_section : State → Bool
fills_section s = eqb (s.count % lifts_per_section) (lifts_per_section - 1)

abbrev pub section_start : State → ℕ
section_start s = tree_width + s.count / lifts_per_section * section_width

-- NAND with the lift: "A page goes to NAND when its sixteenth lift arrives"
unfoldable pub nand_with : List ℕ → State → ℕ → ℕ → ℤ → List ℕ → List ℕ
nand_with nand s slots time load note =
    cond (fills_page s) (programmed nand (slot_of s.current slots) (s.count / lifts_per_page) (page_with s time load note)) nand

-- NOR with the lift: its entry where the plan says, "and a Bloom section to NOR at its sixty-fourth"
unfoldable pub nor_with : List ℕ → State → ℤ → Plan → List ℕ
nor_with nor s load p =
    let entered = all_written nor (writes_of p s.buckets (stored load) s.count) in
    cond (fills_section s) (splice entered (section_start s) (bloom_with s load)) entered

-- the state with a lift more, where next time, bucket count and buffers after it are given; at count 0 the lift starts the segment
unfoldable pub state_given : State → ℕ → ℤ → ℕ → ℕ → List ℕ → List ℕ → State
state_given s time load next buckets page bloom = record {
  oldest = s.oldest;
  current = s.current;
  count = s.count + 1;
  buckets = buckets;
  next = next;
  heads = s.heads;
  loads = pushed s.loads s.count load;
  page = page;
  bloom = bloom;
  start = cond (eqb s.count 0) time s.start;
  low = low_with s.count s.low load;
  high = high_with s.count s.high load;
}

-- next time is "last accepted + 1" in form 0, the last accepted in form 1; a full page or section leaves its buffer: "that buffer is then made
-- empty (255, or 0 for Bloom)"
unfoldable pub state_with : Form → State → ℕ → ℤ → List ℕ → Plan → State
state_with f s time load note p =
    state_given s time load (time + step f) (buckets_after p s.buckets) (cond (fills_page s) erased_page (page_with s time load note))
    (cond (fills_section s) empty_section (bloom_with s load))

-- form 0: it is the oldest retained one where no closed segment is left
unfoldable pub live_with : World → ℕ → ℕ
live_with w time = live_time w.form (cond (eqb w.state.count 0 && eqb w.state.oldest w.state.current) time w.live)

-- the lift goes last into the open segment
unfoldable pub put_world : World → ℕ → ℕ → ℤ → List ℕ → Plan → World
put_world w slots time load note p = record {
  form = w.form;
  nand = nand_with w.nand w.state slots time load note;
  nor = nor_with w.nor w.state load p;
  state = state_with w.form w.state time load note p;
  live = live_with w time;
}
