-- Every store that formats, calls and conversions lead to is the world of a good history. By induction over the way there. Assumes
-- nothing.
use mathlib.Core.Path.{◌≡◌, refl, sym, ap, subst, ◌∙◌}
use mathlib.Core.Bool.{false}
use mathlib.Core.List.{List, [], ◌∷◌}
use Prim.Native.Nat.{ℕ, ◌≤◌}
use Rattle.form.specs.declared.Form.{Form}
use Rattle.form.specs.declared.Form.TheVariants.{Old, New}
use Rattle.bounds.specs.Grounds.{ground}
use Rattle.store.specs.World.{World}
use Rattle.store.specs.Calls.{Outcome}
use Rattle.paper_log.specs.Log.{Log, begun}
use Rattle.paper_log.specs.Calls as Paper
use Rattle.refinement.specs.Inner.Image.{History, image}
use Rattle.refinement.specs.Run.{Request, call_of, world_after, Typed}
use Rattle.refinement.proofs.Good.{Good}
use Rattle.refinement.proofs.Begun.{begun_history, good_begun, format_world}
use Rattle.refinement.proofs.Steps as Steps
use Rattle.refinement.proofs.Reached.{world_is, good_after}
use Rattle.refinement.proofs.Demands.{log_stays}
use Rattle.carry.specs.Carried.{other}
use Rattle.conversion.specs.Outcome.{back_ground, carry_outcome}
use Rattle.round_trips.specs.InForm.{log_into}
use Rattle.round_trips.specs.Reaches.{Chips, Reaches, formatted, called, carried}
use Rattle.round_trips.proofs.Histories.{into, turned_back}
use Rattle.round_trips.proofs.Outcomes.{carry_number, when_accepted, accepted_good, good_into, goes_into}

pub record Known (slots : ℕ) (w : World) (g : Log) : Type 0 where
  pub history : History
  pub good : Good history
  pub world : w ≡ image history
  pub log : history.log ≡ g
  pub same_slots : history.log.slots ≡ slots

-- the form of the store is that of its log
form_of : (h : History) → (image h).form ≡ h.log.form
unfolding image
form_of h = refl

module _ {slots : ℕ} {w : World} {g : Log} (k : Known slots w g) where
  abbrev h : History
  h = k.history

  pub same_form : w.form ≡ k.history.log.form
  same_form = ap (λ (x : World). x.form) k.world ∙ form_of h

  -- ---- a call

  after_call : (r : Request) → Typed r → Known slots (world_after w r) (Paper.stepped g (call_of r))
  unfolding Paper.log_after
  after_call r ok =
      let steps : (Steps.after h (call_of r)).log ≡ Paper.stepped h.log (call_of r) = Steps.after_log h (call_of r) in
      record {
        history = Steps.after h (call_of r);
        good = good_after h k.good r ok;
        world = ap (λ (x : World). world_after x r) k.world ∙ world_is h k.good r ok;
        log = steps ∙ ap (λ (l : Log). Paper.stepped l (call_of r)) k.log;
        same_slots = ap (λ (l : Log). l.slots) steps ∙ (log_stays (call_of r ∷ []) h.log).slots ∙ k.same_slots;
      }

  -- ---- a conversion

  module _ (f : Form) (e : w.form ≡ other f) (nand nor : List ℕ) (chips : Chips slots nand nor) where
    of_form : h.log.form ≡ other f
    of_form = sym same_form ∙ e

    of_history : carry_outcome f w slots nand nor ≡ carry_outcome f (image h) slots nand nor
    of_history = ap (λ (x : World). carry_outcome f x slots nand nor) k.world

    same_number : (carry_outcome f (image h) slots nand nor).number ≡ (carry_outcome f w slots nand nor).number
    same_number = sym (ap (λ (o : Outcome). o.number) of_history)

    -- only ground 14 can hold
    pub number_is : (carry_outcome f w slots nand nor).number ≡ ground 14 (back_ground f (image k.history) k.history.log.slots) 0
    number_is = sym same_number ∙ carry_number f h k.good of_form slots k.same_slots nand nor chips

    pub passes : (carry_outcome f w slots nand nor).number ≡ 0 → back_ground f (image k.history) k.history.log.slots ≡ false
    passes q = when_accepted f h k.good of_form slots k.same_slots nand nor chips (same_number ∙ q)

    pub accepted_if : Good (into f k.history) → (carry_outcome f w slots nand nor).number ≡ 0
    accepted_if to = sym same_number ∙ accepted_good f h k.good of_form slots k.same_slots nand nor chips to

    -- an accepted one leaves the world of the history in the other form
    pub good_there : (carry_outcome f w slots nand nor).number ≡ 0 → Good (into f k.history)
    good_there q = good_into f h k.good of_form slots k.same_slots nand nor chips (same_number ∙ q)

    pub carried_is : (carry_outcome f w slots nand nor).number ≡ 0
        → carry_outcome f w slots nand nor ≡ record { number = 0; world = image (into f k.history) }
    carried_is q = of_history ∙ goes_into f h k.good of_form slots k.same_slots nand nor chips (same_number ∙ q)

    pub after_carry : (carry_outcome f w slots nand nor).number ≡ 0 → Known slots (carry_outcome f w slots nand nor).world (log_into f g)
    after_carry q = record {
      history = into f h;
      good = good_there q;
      world = ap (λ (o : Outcome). o.world) (carried_is q);
      log = ap (log_into f) k.log;
      same_slots = k.same_slots;
    }

-- ---- and back again

twice : (f : Form) → f ≡ other (other f)
twice Old = refl
twice New = refl

pub round_trip : {slots : ℕ} {w : World} {g : Log} → Known slots w g → (f : Form) → w.form ≡ other f
    → (nand nor : List ℕ) → Chips slots nand nor → (nand' nor' : List ℕ) → Chips slots nand' nor' → (carry_outcome f w slots nand nor).number ≡ 0
    → carry_outcome (other f) (carry_outcome f w slots nand nor).world slots nand' nor' ≡ record { number = 0; world = w }
unfolding after_carry
round_trip {slots} {w} {g} k f e nand nor chips nand' nor' chips' q =
    let there : Known slots (carry_outcome f w slots nand nor).world (log_into f g) = after_carry k f e nand nor chips q in
    let turned : into (other f) (into f k.history) ≡ k.history = turned_back f k.history k.good (sym (same_form k) ∙ e) in
    let v = same_form there ∙ twice f in
    carried_is there (other f) v nand' nor' chips' (accepted_if there (other f) v nand' nor' chips' (subst Good (sym turned) k.good))
    ∙ ap {B = Outcome} (λ (x : World). record { number = 0; world = x }) (ap image turned ∙ sym k.world)

-- ---- all of them

module _ (slots : ℕ) (least : 2 ≤ slots) (most : slots ≤ 4096) where
  pub known : {w : World} {g : Log} → Reaches slots w g → Known slots w g
  unfolding begun
  known (formatted v nand nor chips) = record {
    history = begun_history v slots;
    good = good_begun v slots least most;
    world = ap (λ (o : Outcome). o.world) (format_world v slots least most nand nor chips.nand_size chips.nor_size);
    log = refl;
    same_slots = refl;
  }
  known (called r call ok) = after_call (known r) call ok
  known (carried r f e nand nor chips q) = after_carry (known r) f e nand nor chips q
