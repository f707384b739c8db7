-- Reading closed segments back (demand 2): the lifts of a segment's records, as many as its header counts. Assumes nothing.
use Rattle.std.specs.Prelude.{List, ℕ, ◌-◌, ◌*◌}
use Rattle.codec.specs.Number.{number_at}
use Rattle.flash.specs.Chip.{slot_of, page_of, pages_of, tree_first, header_last}
use Rattle.lift.specs.Limits.{load_of}
use Rattle.lift.specs.Record.{time_at, code_at, note_at, record_width}
use Rattle.bloom.specs.Pages.{each}
use Rattle.store.specs.World.{World}
use Rattle.paper_log.specs.Log.{Lift}

-- the lift of record p: "time 8, load 4, note 20", the load "stored as load + 50,001"
abbrev pub lift_in : List ℕ → ℕ → Lift
lift_in area p = record { time = time_at area (p * record_width); load = load_of (code_at area (p * record_width)); note = note_at area (p * record_width) }

-- the closed segment in a slot: the lifts of pages 0 to 19; the count is in header page 31, after the serial
unfoldable pub segment_in : List ℕ → ℕ → List Lift
segment_in nand slot = each (lift_in (pages_of nand slot 0 tree_first)) 0 (number_at (page_of nand slot header_last) 4 2)

-- every segment that the state retains as closed, from the oldest serial on, each from its serial's slot
unfoldable pub segments_in : World → ℕ → List (List Lift)
segments_in w slots = each (λ n. segment_in w.nand (slot_of n slots)) w.state.oldest (w.state.current - w.state.oldest)
