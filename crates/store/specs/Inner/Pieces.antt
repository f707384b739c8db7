-- What the pieces of an append give, for any chips and any state (document 01, "Segments"). Assumes nothing.
use Rattle.std.specs.Prelude.{◌≡◌, Bool, true, false, cond, not, ◌||◌, List, ℕ, ◌-◌, ◌≤◌, ◌<◌, ℤ, length}
use Rattle.lift.specs.Limits.{load_ok}
use Rattle.tree.specs.Plan as Tree
use Rattle.tree.specs.Plan.{is_no_room}
use Rattle.grow.specs.declared.Plan.{Plan}
use Rattle.grow.specs.Inner.Meaning.{meaning, Fitting}
use Rattle.form.specs.declared.Form.{Form}
use Rattle.form.specs.declared.Form.TheVariants.{New}
use Rattle.bounds.specs.Grounds.{ground, lift_ground}
use Rattle.store.specs.declared.State.{State}
use Rattle.store.specs.World.{World, drop_world, put_world}
use Rattle.store.specs.Calls.{first_grounds, drops_first, plan_of, room_world, append_damage, append_unerased}

-- grounds 1 to 3 alone
unfoldable pub bounds_ground : Form → State → ℕ → ℕ → ℕ → ℕ → ℕ
bounds_ground f s live nand_length nor_length slots = first_grounds f s live nand_length nor_length slots 0

-- the code's plan fits a segment of so many buckets and lifts: a full one has lifts, any other has room for one
pub record Suits (buckets count : ℕ) (p : Plan) : Type 0 where
  pub fits : Fitting buckets p
  pub full : is_no_room (meaning p) ≡ true → 1 ≤ count
  pub room : is_no_room (meaning p) ≡ false → count < 320

-- what holds of an append that no ground refuses, and of the code's plan for it
pub record Accepted (w : World) (slots time : ℕ) (load : ℤ) (p : Plan) : Type 0 where
  pub bounds : bounds_ground New w.state 0 (length w.nand) (length w.nor) slots ≡ 0
  pub suits : Suits w.state.buckets w.state.count p
  pub load_ok : load_ok load ≡ true
  pub is : meaning p ≡ plan_of w load

-- grounds 1 to 8 of an append
unfoldable pub entry_ground : State → ℕ → ℕ → ℕ → ℕ → ℤ → ℕ
entry_ground s nand_length nor_length slots time load =
    first_grounds New s 0 nand_length nor_length slots (lift_ground time load s.next s.current 0)

-- grounds 10 and 11 of an append with the plan p
unfoldable pub later_ground : World → ℕ → ℤ → Tree.Plan → ℕ
later_ground w slots load p =
    ground 10 (append_damage (room_world w slots p) slots load p) (ground 11 (append_unerased w (room_world w slots p) slots p) 0)

-- the lift goes into the open segment as it is: no close and no drop comes first
unfoldable pub is_plain : State → ℕ → Tree.Plan → Bool
is_plain s slots p = not (is_no_room p || drops_first s slots)

-- that drop, if it is due
unfoldable pub drop_due : World → ℕ → World
drop_due w slots = cond (drops_first w.state slots) (drop_world w slots) w

-- room for the lift, then the lift
unfoldable pub carried_out : World → ℕ → ℕ → ℤ → List ℕ → Tree.Plan → World
carried_out w slots time load note p = put_world (drop_due (room_world w slots p) slots) slots time load note p
