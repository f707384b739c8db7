-- An append's number as tested, grounds 1 to 8 and then 10 and 11, and the world that its pieces leave one after the other. Assumes
-- nothing.
use mathlib.Core.Path.{◌≡◌, refl, sym, ap, subst, ◌∙◌}
use mathlib.Core.Bool.{Bool, true, false, cond, not}
use mathlib.Core.List.{List, []}
use Prim.Native.Nat.{ℕ, ◌≤◌}
use native.Mathlib.Omega.{arith}
use lib.Dec.{eqb}
use lib.IntN.{ℤ}
use lib.ListN.{length}
use borrow.Author.Tests.{ne_eqb}
use Rattle.tree.specs.Plan as Tree
use Rattle.tree.specs.Plan.{is_no_room}
use Rattle.bounds.specs.Grounds.{nand_bad, nor_bad, lift_ground}
use Rattle.bounds.proofs.Within.{lift_then, lift_within}
use Rattle.form.specs.declared.Form.TheVariants.{New}
use Rattle.grow.specs.declared.Plan.{Plan}
use Rattle.grow.specs.declared.Plan.TheVariants.{Damage, Full, Root, Entry, Child, Split}
use Rattle.grow.specs.Inner.Meaning.{meaning, Fitting}
use Rattle.store.specs.declared.State.{State}
use Rattle.store.specs.Bounds.{within_bounds}
use Rattle.store.specs.World.{World, world, close_world, moved_on, drop_world, without_oldest, live_after, put_world}
use Rattle.store.specs.Calls.{plan_of, room_world, append_ground, drops_first}
use Rattle.store.specs.Inner.Pieces.{Suits, Accepted, drop_due, entry_ground, later_ground, carried_out, bounds_ground}
use Rattle.store.proofs.Rows.{row_same, row_later, row_none}
use Rattle.store.proofs.Grounds.{Standing}
use Rattle.store.proofs.Outcomes.{stands}

-- ---- grounds 1 to 8

module _ (s : State) (nand nor slots time : ℕ) (load : ℤ) (n : ℕ) (judged : n ≡ bounds_ground New s 0 nand nor slots) where
  pub entry_bounds : (n ≡ 0 → ⊥) → n ≡ entry_ground s nand nor slots time load
  unfolding entry_ground bounds_ground
  entry_bounds h =
      row_same (nand_bad nand slots) (nor_bad nor) (not (within_bounds New s 0 slots)) n 0
      (lift_ground time load s.next s.current 0) judged (λ e. absurd (h e))

  pub entry_lift : (m : ℕ) → n ≡ 0 → m ≡ lift_ground time load s.next s.current 0 → m ≡ entry_ground s nand nor slots time load
  unfolding entry_ground bounds_ground
  entry_lift m h f =
      row_later (nand_bad nand slots) (nor_bad nor) (not (within_bounds New s 0 slots)) n 0
      (lift_ground time load s.next s.current 0) judged h m f

-- where none of them holds
pub record Entered (s : State) (nand nor slots time : ℕ) (load : ℤ) : Type 0 where
  pub bounds : bounds_ground New s 0 nand nor slots ≡ 0
  pub lift : lift_ground time load s.next s.current 0 ≡ 0

pub entered : (s : State) (nand nor slots time : ℕ) (load : ℤ) → entry_ground s nand nor slots time load ≡ 0
    → Entered s nand nor slots time load
unfolding entry_ground bounds_ground
entered s nand nor slots time load e =
    let r = row_none (nand_bad nand slots) (nor_bad nor) (not (within_bounds New s 0 slots))
    (lift_ground time load s.next s.current 0) e in
    record { bounds = r.0; lift = r.1 }

-- of the load as passed
pub entry_of : (s : State) (nand nor slots time : ℕ) (z load : ℤ) (n : ℕ) → z ≡ load → n ≡ entry_ground s nand nor slots time z
    → n ≡ entry_ground s nand nor slots time load
entry_of s nand nor slots time z load n k e = e ∙ ap (entry_ground s nand nor slots time) k

-- ---- room for the lift

module _ (w w' : World) (slots : ℕ) (p : Tree.Plan) (full : Bool) (e : full ≡ is_no_room p) where
  pub room_closed : full ≡ true → w' ≡ close_world w slots → w' ≡ room_world w slots p
  unfolding room_world
  room_closed h f = rw (← e, h) f

  pub room_kept : full ≡ false → w ≡ room_world w slots p
  unfolding room_world
  room_kept h = rw (← e, h)

-- what the lift needs of the state: a serial, and room for an entry where the plan says
pub record Ready (s : State) (p : Plan) : Type 0 where
  pub first : 1 ≤ s.current
  pub lifts : s.count ≤ 320
  pub few : s.buckets ≤ 36
  pub fits : Fitting s.buckets p

-- what a forced drop needs of it
pub record Droppable (s : State) : Type 0 where
  pub first : 1 ≤ s.oldest
  pub rising : s.oldest ≤ s.current

module _ (nand nor : List ℕ) (s : State) (slots : ℕ) (st : Standing s (length nand) (length nor) slots) (p : Plan)
    (suits : Suits s.buckets s.count p) where
  abbrev before : World
  before = world nand nor s

  ready_open : Ready s p
  ready_open = record {
    first = omega (arith, st.serials.first, st.serials.rising);
    lifts = st.counts.lifts;
    few = st.counts.few;
    fits = suits.fits;
  }

  -- after the close that is due
  pub ready_room : Ready (room_world before slots (meaning p)).state p
  unfolding room_world close_world moved_on
  ready_room = go p ready_open
    where
      go : (q : Plan) → Ready s q → Ready (room_world before slots (meaning q)).state q
      go Damage r = r
      go Full r = record { first = omega arith; lifts = omega arith; few = omega arith; fits = tt }
      go Root r = r
      go (Entry b i) r = r
      go (Child b side x y) r = r
      go (Split b m side x y) r = r

  pub droppable_room : Droppable (room_world before slots (meaning p)).state
  unfolding room_world close_world moved_on
  droppable_room = go (is_no_room (meaning p))
    where
      go : (b : Bool) → Droppable (cond b (close_world before slots) before).state
      go true = record { first = st.serials.first; rising = omega (arith, st.serials.rising) }
      go false = record { first = st.serials.first; rising = st.serials.rising }

-- of equal worlds
pub ready_there : (w' w : World) (p : Plan) → w' ≡ w → Ready w.state p → Ready w'.state p
ready_there w' w p e r = subst (λ (t : World). Ready t.state p) (sym e) r

pub droppable_there : (w' w : World) → w' ≡ w → Droppable w.state → Droppable w'.state
droppable_there w' w e r = subst (λ (t : World). Droppable t.state) (sym e) r

-- after the drop that is due
pub ready_due : (w : World) (slots : ℕ) (p : Plan) → Ready w.state p → Ready (drop_due w slots).state p
unfolding drop_due drop_world without_oldest
ready_due w slots p r = go (drops_first w.state slots)
  where
    go : (b : Bool) → Ready (cond b (drop_world w slots) w).state p
    go true = record { first = r.first; lifts = r.lifts; few = r.few; fits = r.fits }
    go false = r

-- a drop leaves NOR
due_nor : (nand nor nand' : List ℕ) (s s' : State) (slots : ℕ) → world nand' [] s' ≡ drop_due (world nand [] s) slots
    → world nand' nor s' ≡ drop_due (world nand nor s) slots
unfolding drop_due drop_world live_after
due_nor nand nor nand' s s' slots e = go (drops_first s slots) (ap (λ (t : World). world t.nand nor t.state) e)
  where
    bare : Bool → World
    bare b = cond b (drop_world (world nand [] s) slots) (world nand [] s)

    go : (b : Bool) → world nand' nor s' ≡ world (bare b).nand nor (bare b).state
        → world nand' nor s' ≡ cond b (drop_world (world nand nor s) slots) (world nand nor s)
    go true f = f
    go false f = f

-- one after the other
pub carried_made : (w : World) (nand nor nand' nand'' nor'' : List ℕ) (s s' s'' : State) (slots time : ℕ) (z load : ℤ)
    (note : List ℕ) (p : Tree.Plan)
    → z ≡ load → world nand nor s ≡ room_world w slots p → world nand' [] s' ≡ drop_due (world nand [] s) slots
    → world nand'' nor'' s'' ≡ put_world (world nand' nor s') slots time z note p
    → world nand'' nor'' s'' ≡ carried_out w slots time load note p
unfolding carried_out
carried_made w nand nor nand' nand'' nor'' s s' s'' slots time z load note p k e f g =
    g ∙ ap (λ (t : ℤ). put_world (world nand' nor s') slots time t note p) k
    ∙ ap (λ (t : World). put_world t slots time load note p) (due_nor nand nor nand' s s' slots f
    ∙ ap (λ (t : World). drop_due t slots) e)

-- ---- the number

module _ (nand nor : List ℕ) (s : State) (slots time : ℕ) (load : ℤ) (n : ℕ)
    (judged : n ≡ entry_ground s (length nand) (length nor) slots time load) where
  abbrev w : World
  w = world nand nor s

  -- grounds 10 and 11
  more : ℕ
  more = later_ground w slots load (plan_of w load)

  pub number_early : (n ≡ 0 → ⊥) → n ≡ append_ground w slots time load
  unfolding append_ground entry_ground more later_ground
  number_early h =
      row_same (nand_bad (length nand) slots) (nor_bad (length nor)) (not (within_bounds New s 0 slots)) n _ _ judged
      (λ e. e ∙ sym (lift_then time load s.next s.current more ∙ past e))
    where
      past : n ≡ lift_ground time load s.next s.current 0
          → cond (eqb (lift_ground time load s.next s.current 0) 0) more (lift_ground time load s.next s.current 0)
          ≡ lift_ground time load s.next s.current 0
      past e = rw (← e, ne_eqb n 0 h)

  module _ (zero : n ≡ 0) (p : Tree.Plan) (planned : p ≡ plan_of w load) (m : ℕ) (later : m ≡ later_ground w slots load p) where
    pub number_later : m ≡ append_ground w slots time load
    unfolding append_ground more later_ground
    number_later =
        let e = entered s (length nand) (length nor) slots time load (sym judged ∙ zero) in
        stands nand nor s slots 0 (sym e.bounds) _ m refl (later ∙ by_plan
        ∙ sym (lift_then time load s.next s.current more ∙ past e.lift))
      where
        by_plan : later_ground w slots load p ≡ more
        by_plan = rw planned

        past : lift_ground time load s.next s.current 0 ≡ 0
            → cond (eqb (lift_ground time load s.next s.current 0) 0) more
            (lift_ground time load s.next s.current 0) ≡ more
        past f = rw f

    -- what holds where it is 0
    pub planned_is : (q : Plan) → meaning q ≡ p → Suits s.buckets s.count q → Accepted w slots time load q
    planned_is q e suits =
        let t = entered s (length nand) (length nor) slots time load (sym judged ∙ zero) in
        record {
          bounds = t.bounds;
          suits = suits;
          load_ok = (lift_within _ _ _ _ t.lift).load_ok;
          is = e ∙ planned;
        }
