-- The calls that write: their grounds in checking order (document 01, "Twelve grounds") and their outcomes, for any chips and any
-- state. Assumes nothing.
use Rattle.std.specs.Prelude.{Bool, true, false, cond, not, ◌&&◌, ◌||◌, List, map, ℕ, ◌-◌, ◌/◌, eqb, leb, ℤ, pos, length}
use Rattle.std.specs.declared.result.Result.{Result}
use Rattle.std.specs.declared.result.Result.TheVariants.{Ok, Err}
use Rattle.codec.specs.Area.{part, all_ones}
use Rattle.flash.specs.Chip.{slot_of, page_erased, chip_erased, erased_page, nor_tree}
use Rattle.lift.specs.Limits.{stored}
use Rattle.lift.specs.Rows.{lifts_per_page}
use Rattle.bloom.specs.Bloom.{empty_section, section_width}
use Rattle.form.specs.declared.Form.{Form}
use Rattle.form.specs.declared.Form.TheVariants.{Old, New}
use Rattle.skiplist.specs.Skip.{no_heads}
use Rattle.segment.specs.Pages.{close_erased}
use Rattle.tree.specs.Plan.{Plan, plan_on, is_damaged, is_no_room}
use Rattle.tree.specs.Writes.{writes_of, all_clear}
use Rattle.grounds.specs.declared.Ground.{Ground}
use Rattle.bounds.specs.Grounds.{ground, nand_bad, nor_bad, format_ground, lift_ground}
use Rattle.bounds.specs.Lifts.{no_loads}
use Rattle.store.specs.declared.State.{State}
use Rattle.store.specs.Bounds.{within_bounds}
use Rattle.store.specs.World.{World, world, close_world, drop_world, put_world}
use Rattle.store.specs.World.{next_oldest, closed_remains, fills_page, fills_section, section_start}

-- a call's number, with the chips and the state that it leaves
pub record Outcome : Type 0 where
  pub number : ℕ
  pub world : World

abbrev pub returned : ℕ → List ℕ → List ℕ → State → Outcome
returned number nand nor s = record { number = number; world = world nand nor s }

-- the state that stands after a call: the one that it hands back, or, refused, the one that it was called with
abbrev pub next_state : State → Result State Ground → State
next_state s (Ok t) = t
next_state s (Err g) = s

-- "A refusal returns its number alone and alters nothing."
abbrev pub outcome : ℕ → World → World → Outcome
outcome number before after = record { number = number; world = cond (eqb number 0) after before }

-- ---- format

-- "its state has both serials 1, heads none, the page buffer 255 and all else 0"
unfoldable pub formatted : State
formatted = record {
  oldest = 1;
  current = 1;
  count = 0;
  buckets = 0;
  next = 0;
  heads = no_heads;
  loads = no_loads;
  page = erased_page;
  bloom = empty_section;
  start = 0;
  low = pos 0;
  high = pos 0;
}

-- "Format erases both chips"; a refused one hands back the formatted state and leaves the chips
unfoldable pub format_outcome : Form → List ℕ → List ℕ → ℕ → Outcome
format_outcome f nand nor slots =
    outcome (format_ground (length nand) (length nor) slots)
    (record { form = f; nand = nand; nor = nor; state = formatted; live = 0 })
    (record { form = f; nand = chip_erased (length nand); nor = chip_erased (length nor); state = formatted; live = 0 })

-- ---- grounds 1 to 3, of every other call

-- of a state of either form and of chips of these lengths; then what the later grounds give
abbrev pub first_grounds : Form → State → ℕ → ℕ → ℕ → ℕ → ℕ → ℕ
first_grounds f s live nand_length nor_length slots rest =
    ground 1 (nand_bad nand_length slots) (ground 2 (nor_bad nor_length) (ground 3 (not (within_bounds f s live slots)) rest))

-- of a world
abbrev pub state_ground : World → ℕ → ℕ → ℕ
state_ground w slots rest = first_grounds w.form w.state w.live (length w.nand) (length w.nor) slots rest

-- ---- close

-- no open lift; a page due to be programmed is not erased
unfoldable pub close_ground : World → ℕ → ℕ
close_ground w slots =
    state_ground w slots
    (ground 9 (eqb w.state.count 0)
    (ground 11 (not (close_erased w.nand (slot_of w.state.current slots) w.state.count w.state.buckets))
    0))

unfoldable pub close_outcome : World → ℕ → Outcome
close_outcome w slots = outcome (close_ground w slots) w (close_world w slots)

-- ---- drop

-- form 0 reads a header at a drop; in form 1 "a drop reads no header"
abbrev pub reads_header : Form → Bool
reads_header Old = true
reads_header New = false

-- the header that a drop reads is damaged
abbrev pub drop_damage : World → ℕ → Bool
drop_damage w slots = reads_header w.form && (closed_remains w.state && not (next_oldest w slots).good)

-- no closed segment; damage in the header of the segment that becomes oldest
unfoldable pub drop_ground : World → ℕ → ℕ
drop_ground w slots =
    state_ground w slots (ground 9 (eqb w.state.oldest w.state.current) (ground 10 (drop_damage w slots) 0))

unfoldable pub drop_outcome : World → ℕ → Outcome
drop_outcome w slots = outcome (drop_ground w slots) w (drop_world w slots)

-- ---- append

-- where the lift's entry goes, by the buckets on its path
abbrev pub plan_of : World → ℤ → Plan
plan_of w load =
    plan_on (nor_tree w.nor) w.state.buckets w.state.count (map stored w.state.loads) (stored load)

-- "An append that finds 320 lifts, or that needs bucket 36, first closes and then goes into the next serial."
unfoldable pub room_world : World → ℕ → Plan → World
room_world w slots p = cond (is_no_room p) (close_world w slots) w

-- "The first append to n erases that slot if oldest ≤ n − S"
abbrev pub drops_first : State → ℕ → Bool
drops_first s slots = eqb s.count 0 && leb slots (s.current - s.oldest)

-- NOR bytes due for writing are all 255
unfoldable pub nor_clear : World → ℤ → Plan → Bool
nor_clear w load p =
    all_clear w.nor (writes_of p w.state.buckets (stored load) w.state.count)
    && (not (fills_section w.state) || all_ones (part w.nor (section_start w.state) section_width))

-- ground 10, of the plan p and the world r after a close that is due
unfoldable pub append_damage : World → ℕ → ℤ → Plan → Bool
append_damage r slots load p =
    is_damaged p || ((drops_first r.state slots && drop_damage r slots) || not (nor_clear r load p))

-- ground 11: the pages of a close that is due, and the page that the lift fills
unfoldable pub append_unerased : World → World → ℕ → Plan → Bool
append_unerased w r slots p =
    (is_no_room p && not (close_erased w.nand (slot_of w.state.current slots) w.state.count w.state.buckets))
    || (fills_page r.state && not (page_erased r.nand (slot_of r.state.current slots) (r.state.count / lifts_per_page)))

unfoldable pub append_ground : World → ℕ → ℕ → ℤ → ℕ
append_ground w slots time load =
    state_ground w slots
    (lift_ground time load w.state.next w.state.current
    (ground 10 (append_damage (room_world w slots (plan_of w load)) slots load (plan_of w load))
    (ground 11 (append_unerased w (room_world w slots (plan_of w load)) slots (plan_of w load))
    0)))

-- a close if it is due, a drop if it is due, then the lift
unfoldable pub append_world : World → ℕ → ℕ → ℤ → List ℕ → World
append_world w slots time load note =
    let p = plan_of w load in
    let r = room_world w slots p in
    put_world (cond (drops_first r.state slots) (drop_world r slots) r) slots time load note p

unfoldable pub append_outcome : World → ℕ → ℕ → ℤ → List ℕ → Outcome
append_outcome w slots time load note = outcome (append_ground w slots time load) w (append_world w slots time load note)
