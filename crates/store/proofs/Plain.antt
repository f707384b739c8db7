-- An append by its number and its plan: refused, or carried out; a plain lift is put into the open segment as it is. By the tests that a
-- plain lift passes. Assumes nothing.
use mathlib.Core.Path.{◌≡◌, refl, ap, subst, ◌∙◌}
use mathlib.Core.Bool.{Bool, true, false, not, ◌&&◌, ◌||◌, false≢true}
use mathlib.Core.List.{List}
use Prim.Native.Nat.{ℕ, ◌+◌, ◌-◌}
use lib.Dec.{eqb, leb}
use lib.IntN.{ℤ}
use Rattle.tree.specs.Plan as Tree
use Rattle.tree.specs.Plan.{is_no_room}
use Rattle.grow.specs.declared.Plan.{Plan}
use Rattle.store.specs.declared.State.{State}
use Rattle.store.specs.declared.fields.Fields.{Fields}
use Rattle.store.specs.Inner.Fields.{fields_of}
use Rattle.store.specs.World.{World, world, close_world, moved_on, put_world}
use Rattle.store.specs.Calls.{Outcome, plan_of, room_world, append_ground, append_world, append_outcome, drops_first}
use Rattle.store.specs.Inner.Pieces.{Accepted, drop_due, is_plain, carried_out}
use Rattle.store.proofs.Outcomes.{refuses, accepts}

-- ---- by the number

module _ (w : World) (slots time : ℕ) (load : ℤ) (note : List ℕ) (n : ℕ) (number : n ≡ append_ground w slots time load) where
  pub append_refused : (n ≡ 0 → ⊥) → ◌≡◌ {A = Outcome} (record { number = n; world = w }) (append_outcome w slots time load note)
  unfolding append_outcome
  append_refused h = refuses n _ w (append_world w slots time load note) number h

  pub append_carried : (p : Tree.Plan) (w' : World) (z : ℤ) → n ≡ 0 → p ≡ plan_of w load → z ≡ load
      → w' ≡ carried_out w slots time z note p
      → ◌≡◌ {A = Outcome} (record { number = 0; world = w' }) (append_outcome w slots time load note)
  unfolding append_outcome append_world carried_out drop_due
  append_carried p w' z h e k f = accepts n _ w (append_world w slots time load note) number w' h (rw (e, k) at f)

-- of the load as passed
module _ (w : World) (slots time : ℕ) (z load : ℤ) (k : z ≡ load) where
  pub number_of : (n : ℕ) → n ≡ append_ground w slots time z → n ≡ append_ground w slots time load
  number_of n e = e ∙ ap (append_ground w slots time) k

  pub accepted_of : (p : Plan) → Accepted w slots time z p → Accepted w slots time load p
  accepted_of p t = subst (λ (l : ℤ). Accepted w slots time l p) k t

-- ---- a plain lift

-- the tests that it passes
pub record Plain (s : State) (slots : ℕ) (p : Tree.Plan) : Type 0 where
  pub roomy : is_no_room p ≡ false
  pub kept : drops_first s slots ≡ false

pub plain_test : (s : State) (slots : ℕ) (p : Tree.Plan) (f : Fields) (full drops : Bool) → fields_of s ≡ f → full ≡ is_no_room p
    → drops ≡ (eqb f.count 0 && leb slots (f.current - f.oldest)) → not (full || drops) ≡ is_plain s slots p
unfolding is_plain
plain_test s slots p f full drops same e g =
    subst (λ (t : Fields). drops ≡ (eqb t.count 0 && leb slots (t.current - t.oldest))
    → not (full || drops) ≡ is_plain s slots p) same (λ h. rw (e, h)) g

none_of : (a b : Bool) → not (a || b) ≡ true → (a ≡ false) × (b ≡ false)
none_of true b e = absurd (false≢true e)
none_of false true e = absurd (false≢true e)
none_of false false e = (refl, refl)

pub plain : (s : State) (slots : ℕ) (p : Tree.Plan) → is_plain s slots p ≡ true → Plain s slots p
unfolding is_plain
plain s slots p e = let t = none_of (is_no_room p) (drops_first s slots) e in record { roomy = t.0; kept = t.1 }

stays : (nand nor : List ℕ) (s : State) (slots : ℕ) (p : Tree.Plan) → Plain s slots p
    → drop_due (room_world (world nand nor s) slots p) slots ≡ world nand nor s
unfolding drop_due room_world
stays nand nor s slots p is = rw (is.roomy, is.kept)

-- it is put, and that is all
pub plain_made : (nand nor : List ℕ) (s : State) (slots time : ℕ) (load : ℤ) (note : List ℕ) (p : Tree.Plan) → Plain s slots p
    → carried_out (world nand nor s) slots time load note p ≡ put_world (world nand nor s) slots time load note p
unfolding carried_out
plain_made nand nor s slots time load note p is = ap (λ (t : World). put_world t slots time load note p) (stays nand nor s slots p is)

-- ---- a drop that comes first, behind a close or not

pub sheds_closed : (w : World) (slots : ℕ) (p : Tree.Plan) (f : Fields) (drops : Bool) → fields_of w.state ≡ f → is_no_room p ≡ true
    → drops ≡ leb slots (f.current + 1 - f.oldest) → drops ≡ drops_first (room_world w slots p).state slots
unfolding room_world close_world moved_on
sheds_closed w slots p f drops same e g =
    rw e (subst (λ (t : Fields). drops ≡ leb slots (t.current + 1 - t.oldest)
    → drops ≡ leb slots (w.state.current + 1 - w.state.oldest)) same (λ h. h) g)

pub sheds_open : (w : World) (slots : ℕ) (p : Tree.Plan) (f : Fields) (drops : Bool) → fields_of w.state ≡ f → is_no_room p ≡ false
    → drops ≡ (eqb f.count 0 && leb slots (f.current - f.oldest)) → drops ≡ drops_first (room_world w slots p).state slots
unfolding room_world
sheds_open w slots p f drops same e g =
    rw e (subst (λ (t : Fields). drops ≡ (eqb t.count 0 && leb slots (t.current - t.oldest))
    → drops ≡ drops_first w.state slots) same (λ h. h) g)
