-- Each return of an append that keeps counts is what the definition gives there. The hypotheses are what the calls ensure and the tests show.
-- Assumes nothing.
use mathlib.Core.Path.{◌≡◌, refl, sym, ap, subst, ◌∙◌}
use mathlib.Core.Bool.{Bool, true, false, cond, not}
use mathlib.Core.Logic.{◌⊎◌, inl, inr}
use mathlib.Core.Option.{Option, none, some}
use mathlib.Core.List.{List, []}
use Prim.Native.Nat.{ℕ, ◌≤◌, ◌<◌}
use native.Mathlib.Decide.{ℕ_discrete}
use native.Mathlib.Omega.{arith}
use lib.Dec.{eqb, leb, ltb}
use lib.IntN.{ℤ}
use lib.ListN.{length}
use borrow.Author.Tests.{ne_eqb, ltb-false}
use Rattle.lift.specs.Limits.{stored, time_ok, load_ok}
use Rattle.form.specs.declared.Form.TheVariants.{New}
use Rattle.bounds.specs.Grounds.{ground, sooner, nand_bad, nor_bad, lift_ground}
use Rattle.tree.specs.Plan as Tree
use Rattle.counts.specs.Counts.{counts_broken, one_more}
use Rattle.store.specs.declared.State.{State}
use Rattle.store.specs.Bounds.{within_bounds}
use Rattle.store.specs.World.{World, world}
use Rattle.store.specs.Calls.{Outcome, plan_of, room_world, append_damage, append_unerased, append_ground, append_outcome, drops_first}
use Rattle.store.specs.Inner.Pieces.{Suits, entry_ground, later_ground, carried_out}
use Rattle.plate.specs.Total.{total}
use Rattle.grow.specs.declared.Plan.{Plan}
use Rattle.grow.specs.Inner.Meaning.{meaning}
use Rattle.bounds.proofs.Within.{Liftable, lift_within}
use Rattle.store.specs.declared.fields.Fields.{Fields}
use Rattle.store.specs.Inner.Fields.{fields_of}
use Rattle.store.proofs.Grounds.{Standing, standing}
use Rattle.store.proofs.Appended.{number_early, number_later, Entered, entered}
use Rattle.store.proofs.Plain.{append_carried}
use Rattle.keeping.specs.Keeping.{Counted, counted, with_ground, is_lost, counts_shed, counts_appended, append_kept}
use Rattle.keeping.specs.Inner.Shedding.{shed_if, Whole}
use Rattle.keeping.proofs.Shedding.{lost_lift, kept_lift, shed_is}
use Rattle.keeping.proofs.Numbers.{none_before, early_number, late_number, refuses, accepts}

-- ---- the plain number: grounds 1 to 8, then 10 and 11

-- none is past 8
seven : (a b c d e f g : Bool) → ground 1 a (ground 2 b (ground 3 c (ground 4 d (ground 5 e (ground 7 f (ground 8 g 0)))))) < 9
seven true b c d e f g = omega arith
seven false true c d e f g = omega arith
seven false false true d e f g = omega arith
seven false false false true e f g = omega arith
seven false false false false true f g = omega arith
seven false false false false false true g = omega arith
seven false false false false false false true = omega arith
seven false false false false false false false = omega arith

entry_small : (s : State) (nand nor slots time : ℕ) (load : ℤ) → entry_ground s nand nor slots time load < 9
unfolding entry_ground lift_ground
entry_small s nand nor slots time load =
    seven (nand_bad nand slots) (nor_bad nor) (not (within_bounds New s 0 slots)) (not (time_ok time)) (not (load_ok load)) (ltb time s.next)
    (leb 999999998 s.current)

two : (a b : Bool) → (ground 10 a (ground 11 b 0) ≡ 0) ⊎ (3 < ground 10 a (ground 11 b 0))
two true b = inr (omega arith)
two false true = inr (omega arith)
two false false = inl refl

later_late : (w : World) (slots : ℕ) (load : ℤ) (p : Tree.Plan) → (later_ground w slots load p ≡ 0) ⊎ (3 < later_ground w slots load p)
unfolding later_ground
later_late w slots load p = two (append_damage (room_world w slots p) slots load p) (append_unerased w (room_world w slots p) slots p)

-- ground 10 of the counts comes before both
lost_first : (w : World) (slots : ℕ) (load : ℤ) (p : Tree.Plan) → with_ground 10 true (later_ground w slots load p) ≡ 10
unfolding later_ground sooner
lost_first w slots load p = go (append_damage (room_world w slots p) slots load p) (append_unerased w (room_world w slots p) slots p)
  where
    go : (a b : Bool) → with_ground 10 true (ground 10 a (ground 11 b 0)) ≡ 10
    go true b = refl
    go false true = refl
    go false false = refl

-- ---- the returns

module _ (nand nor : List ℕ) (s : State) (slots time : ℕ) (load : ℤ) (note counts : List ℕ) (g : ℕ)
    (judged : g ≡ entry_ground s (length nand) (length nor) slots time load) (n : ℕ) (number : n ≡ with_ground 3 (counts_broken counts) g) where
  abbrev w : World
  w = world nand nor s

  abbrev l : ℕ
  l = later_ground w slots load (plan_of w load)

  abbrev lost : Bool
  lost = is_lost (counts_appended w slots load counts)

  small : g < 9
  small = rw judged (entry_small s (length nand) (length nor) slots time load)

  plain_number : append_ground w slots time load ≡ cond (eqb g 0) l g
  plain_number = go (ℕ_discrete g 0)
    where
      go : Dec (g ≡ 0) → append_ground w slots time load ≡ cond (eqb g 0) l g
      go (yes z) = sym (number_later nand nor s slots time load g judged z (plan_of w load) refl l refl) ∙ rw z
      go (no f) = sym (number_early nand nor s slots time load g judged f) ∙ rw (ne_eqb g 0 f)

  pub append_early : (n ≡ 0 → ⊥) → counted n nand nor s counts ≡ append_kept w slots time load note counts
  unfolding append_kept append_outcome
  append_early f =
      refuses w counts (append_outcome w slots time load note) (counts_appended w slots load counts) n
      (number ∙ early_number (counts_broken counts) lost g l _ small (later_late w slots load (plan_of w load)) plain_number (λ z. f (number ∙ z))) f

  -- neither the counts nor grounds 1 to 8 refuse it
  module _ (zero : n ≡ 0) where
    pub passed : (counts_broken counts ≡ false) × (g ≡ 0)
    passed = none_before (counts_broken counts) lost g l _ small (later_late w slots load (plan_of w load)) plain_number (sym number ∙ zero)

    late : with_ground 10 lost l ≡ with_ground 3 (counts_broken counts) (with_ground 10 lost (append_ground w slots time load))
    late = late_number (counts_broken counts) lost g l _ small (later_late w slots load (plan_of w load)) plain_number (sym number ∙ zero)

    module _ (p : Tree.Plan) (planned : p ≡ plan_of w load) (m : ℕ) (later : m ≡ later_ground w slots load p)
        (d : Option (List ℕ)) (shed : d ≡ counts_shed (room_world w slots p) slots counts) where
      shed_here : d ≡ counts_shed (room_world w slots (plan_of w load)) slots counts
      shed_here = shed ∙ ap (λ (q : Tree.Plan). counts_shed (room_world w slots q) slots counts) planned

      m_is : m ≡ l
      m_is = later ∙ ap (later_ground w slots load) planned

      pub append_lost : d ≡ none → counted 10 nand nor s counts ≡ append_kept w slots time load note counts
      unfolding append_kept append_outcome
      append_lost e =
          refuses w counts (append_outcome w slots time load note) (counts_appended w slots load counts) 10
          (sym (ap (λ t. with_ground 10 (is_lost t) l) (lost_lift w slots load counts (sym shed_here ∙ e)) ∙ lost_first w slots load (plan_of w load)) ∙ late) (λ z. omega arith)

      kept_number : (c : List ℕ) → d ≡ some c → m ≡ with_ground 3 (counts_broken counts) (with_ground 10 lost (append_ground w slots time load))
      unfolding sooner
      kept_number c e = m_is ∙ sym (ap (λ t. with_ground 10 (is_lost t) l) (kept_lift w slots load counts c (sym shed_here ∙ e))) ∙ late

      pub append_refused : (c : List ℕ) → d ≡ some c → (m ≡ 0 → ⊥) → counted m nand nor s counts ≡ append_kept w slots time load note counts
      unfolding append_kept append_outcome
      append_refused c e f =
          refuses w counts (append_outcome w slots time load note) (counts_appended w slots load counts) m (kept_number c e) f

      pub append_done : (c : List ℕ) → d ≡ some c → m ≡ 0 → (w' : World) → w' ≡ carried_out w slots time load note p
          → (counts' : List ℕ) → counts' ≡ one_more c (stored load)
          → ◌≡◌ {A = Counted} (record { number = 0; world = w'; counts = counts' }) (append_kept w slots time load note counts)
      unfolding append_kept append_outcome
      append_done c e f w' h counts' k =
          accepts w counts (append_outcome w slots time load note) (counts_appended w slots load counts) m (kept_number c e) w' counts' f
          (ap (λ (o : Outcome). o.world) (append_carried w slots time load note m
          (m_is ∙ sym (plain_number ∙ rw passed.1)) p w' load f planned refl h))
          (kept_lift w slots load counts c (sym shed_here ∙ e) ∙ ap {B = Option (List ℕ)} some (sym k))

-- ---- past grounds 1 to 8 and ground 3 of the counts

pub record LetIn (nand nor : List ℕ) (s : State) (slots time : ℕ) (load : ℤ) (counts : List ℕ) : Type 0 where
  pub few : total counts ≤ 1310720
  pub entered : Entered s (length nand) (length nor) slots time load
  pub stands : Standing s (length nand) (length nor) slots
  pub lifts : Liftable time load s.next s.current

pub let_in : (nand nor : List ℕ) (s : State) (slots time : ℕ) (load : ℤ) (counts : List ℕ) (g : ℕ)
    → g ≡ entry_ground s (length nand) (length nor) slots time load → 0 ≡ with_ground 3 (counts_broken counts) g
    → LetIn nand nor s slots time load counts
let_in nand nor s slots time load counts g judged number =
    let t = passed nand nor s slots time load [] counts g judged 0 number refl in
    let e = entered s (length nand) (length nor) slots time load (sym judged ∙ t.1) in
    record {
      few = ltb-false 1310720 (total counts) t.0;
      entered = e;
      stands = standing s (length nand) (length nor) slots e.bounds;
      lifts = lift_within time load s.next s.current e.lift;
    }

-- the counts after a forced drop, as the fields give them
pub shed_of : (nand nor : List ℕ) (s : State) (slots : ℕ) → Standing s (length nand) (length nor) slots → Whole s → (p : Plan) (f : Fields)
    → fields_of s ≡ f → Suits f.buckets f.count p → (counts : List ℕ) (d : Option (List ℕ))
    → d ≡ shed_if (drops_first (room_world (world nand nor s) slots (meaning p)).state slots) nand slots f.oldest f.current f.count counts
    → d ≡ counts_shed (room_world (world nand nor s) slots (meaning p)) slots counts
shed_of nand nor s slots st whole p f same suits counts d e =
    let here : Suits s.buckets s.count p = subst (λ (t : Fields). Suits t.buckets t.count p) (sym same) suits in
    e
    ∙ ap (λ (t : Fields). shed_if (drops_first (room_world (world nand nor s) slots (meaning p)).state slots) nand slots t.oldest t.current t.count counts) (sym same)
    ∙ shed_is nand nor s slots st whole (meaning p) here.full counts
