-- The two calls that carry a store into the other form (document 02, W-203): their grounds in checking order and their outcomes, for
-- any chips and any state of the first store and any chips of the second. Assumes nothing.
use Rattle.std.specs.Prelude.{Bool, false, not, ◌||◌, List, ℕ, length}
use Rattle.std.specs.declared.result.Result.{Result}
use Rattle.std.specs.declared.result.Result.TheVariants.{Ok, Err}
use Rattle.grounds.specs.declared.Ground.{Ground}
use Rattle.form.specs.declared.Form.{Form}
use Rattle.form.specs.declared.Form.TheVariants.{Old, New}
use Rattle.bounds.specs.Grounds.{ground, nand_bad, nor_bad}
use Rattle.store.specs.declared.OldState.{OldState}
use Rattle.store.specs.declared.State.{State}
use Rattle.store.specs.Bounds.{within_bounds}
use Rattle.store.specs.World.{World, world, old_world}
use Rattle.store.specs.Calls.{Outcome, outcome, formatted}
use Rattle.carry.specs.Carried.{other, first_time, world_into}
use Rattle.retained.specs.Retained.{any_closed, is_form, is_damaged, retained_times, rises, any_late, has_late}

-- ground 14, "going back": "a retained lift is no later than the one before it, or a pointer neither none nor live is no earlier than
-- the oldest live time"
abbrev pub cannot_go_back : World → ℕ → Bool
cannot_go_back w slots =
    not (rises (retained_times w slots))
    || (any_late w.state.oldest (first_time Old w slots) w.state.heads
    || any_closed (has_late w.state.oldest (first_time Old w slots)) w slots)

-- it holds going back alone
abbrev pub back_ground : Form → World → ℕ → Bool
back_ground Old w slots = cannot_go_back w slots
back_ground New w slots = false

-- "Each ground is tried on every store in order before the next ground": the first store w, then the second store's lengths; the
-- second's state is output alone. Number 11 does not arise: every slot of the second store is written or erased.
unfoldable pub carry_ground : Form → World → ℕ → ℕ → ℕ → ℕ
carry_ground f w slots nand_length nor_length =
    ground 1 (nand_bad (length w.nand) slots || nand_bad nand_length slots)
    (ground 2 (nor_bad (length w.nor) || nor_bad nor_length)
    (ground 3 (not (within_bounds w.form w.state w.live slots))
    (ground 13 (any_closed (is_form f) w slots)
    (ground 10 (any_closed (is_damaged (other f) slots w.state.current) w slots)
    (ground 14 (back_ground f w slots)
    0)))))

-- the second store after the call; a refusal leaves its chips and hands back the formatted state, as a refused format does
unfoldable pub carry_outcome : Form → World → ℕ → List ℕ → List ℕ → Outcome
carry_outcome f w slots nand nor =
    outcome (carry_ground f w slots (length nand) (length nor))
    (record { form = f; nand = nand; nor = nor; state = formatted; live = 0 })
    (world_into f w slots)

-- a store of form 0 into form 1, and back
abbrev pub forward_outcome : List ℕ → List ℕ → OldState → ℕ → List ℕ → List ℕ → Outcome
forward_outcome nand nor old slots toNand toNor = carry_outcome New (old_world nand nor old) slots toNand toNor

abbrev pub backward_outcome : List ℕ → List ℕ → State → ℕ → List ℕ → List ℕ → Outcome
backward_outcome nand nor s slots toNand toNor = carry_outcome Old (world nand nor s) slots toNand toNor

-- the second store's state after a call: the one that it hands back, or, refused, the formatted one
abbrev pub next_old_state : Result OldState Ground → OldState
next_old_state (Ok o) = o
next_old_state (Err g) = record { state = formatted; live = 0 }

-- what a call that hands back a state of form 0 leaves
abbrev pub old_returned : ℕ → List ℕ → List ℕ → OldState → Outcome
old_returned number nand nor o = record { number = number; world = old_world nand nor o }
