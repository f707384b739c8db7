-- The world of a history: both chips and the state as functions of the paper log and of the starts of the serials that went. Assumes nothing.
use Rattle.std.specs.Prelude.{cond, List, [], ◌∷◌, map, ℕ, suc, ◌*◌, ◌/◌, ◌%◌, eqb, length}
use Rattle.flash.specs.Chip.{slot_of, erased_page}
use Rattle.bloom.specs.Pages.{each}
use Rattle.skiplist.specs.declared.Pointer.{Pointer}
use Rattle.form.specs.declared.Form.{Form}
use Rattle.skiplist.specs.Skip.{Live, pointing, level_of, heads_after, no_heads}
use Rattle.search.specs.Answers.{row_bytes}
use Rattle.store.specs.declared.State.{State}
use Rattle.store.specs.World.{World, live_time, oldest_by}
use Rattle.paper_log.specs.Log.{Lift, Log, open_serial, codes}
use Rattle.refinement.specs.Inner.Segments.{start_time, closed_page, open_page, heads_from, nor_of, bucket_count, loads_of, low_of, high_of, last_thirteen, page_buffer, bloom_buffer}

-- the log, and the start times of the serials that went, serial 1 first
pub record History : Type 0 where
  pub log : Log
  pub gone : List ℕ

-- the heads where the oldest retained serial was closed, and the heads of the open serial
abbrev pub oldest_heads : History → List Pointer
oldest_heads h = heads_from h.log.form h.log.slots 1 h.gone no_heads

abbrev pub open_heads : History → List Pointer
open_heads h = heads_from h.log.form h.log.slots h.log.oldest (map start_time h.log.closed) (oldest_heads h)

-- page p of slot s: of the closed serials from n on, then of the open one; erased where no serial has lifts there
unfoldable pub page_from : Form → ℕ → ℕ → List (List Lift) → List Lift → List Pointer → ℕ → ℕ → List ℕ
page_from f slots n [] current heads s p = cond (eqb (slot_of n slots) s) (open_page current p) erased_page
page_from f slots n (ls ∷ rest) current heads s p =
    cond (eqb (slot_of n slots) s) (closed_page f n ls heads p)
    (page_from f slots (suc n) rest current (heads_after heads (level_of n) (pointing f (slot_of n slots) n (start_time ls))) s p)

abbrev pub page_image : History → ℕ → ℕ → List ℕ
page_image h s p = page_from h.log.form h.log.slots h.log.oldest h.log.closed h.log.current (oldest_heads h) s p

-- all pages, slot by slot
unfoldable pub nand_image : History → List ℕ
nand_image h = row_bytes (each (λ k. page_image h (k / 32) (k % 32)) 0 (h.log.slots * 32))

-- "The oldest live time is the start of the oldest retained lift, or next time if there is none."
abbrev pub first_start : List (List Lift) → List Lift → ℕ → ℕ
first_start [] [] next = next
first_start [] (l ∷ ls) next = l.time
first_start (ls ∷ rest) current next = start_time ls

abbrev pub oldest_time : Log → ℕ
oldest_time g = live_time g.form (first_start g.closed g.current g.next)

-- what the history's pointers are judged by
abbrev pub live_of : Log → Live
live_of g = oldest_by g.form (oldest_time g) g.oldest

unfoldable pub state_image : History → State
state_image h = record {
  oldest = h.log.oldest;
  current = open_serial h.log;
  count = length h.log.current;
  buckets = bucket_count h.log.current;
  next = h.log.next;
  heads = open_heads h;
  loads = last_thirteen (loads_of h.log.current);
  page = page_buffer h.log.current;
  bloom = bloom_buffer (codes h.log.current);
  start = start_time h.log.current;
  low = low_of (loads_of h.log.current);
  high = high_of (loads_of h.log.current);
}

unfoldable pub image : History → World
image h =
    record { form = h.log.form; nand = nand_image h; nor = nor_of h.log.current; state = state_image h; live = oldest_time h.log }
