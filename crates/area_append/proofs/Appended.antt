-- What an append over areas leaves: as it was where its number is not 0; else the state's area with a plain lift in place, or with
-- the state that was carried out. Assumes nothing.
use mathlib.Core.Path.{◌≡◌, refl, sym, ap, subst, ◌∙◌}
use mathlib.Core.Bool.{true}
use mathlib.Core.List.{List}
use Prim.Native.Nat.{ℕ, ◌*◌, ◌≤◌, ◌<◌}
use native.Mathlib.Omega.{arith}
use lib.IntN.{ℤ}
use lib.ListN.{length}
use Rattle.codec.specs.Number.{number_at}
use Rattle.flash.specs.Chip.{slot_of}
use Rattle.lift.specs.Limits.{load_ok, stored}
use Rattle.tree.specs.Writes.{Writes, writes_of, all_written, buckets_after}
use Rattle.bounds.proofs.Within.{lift_within}
use Rattle.grow.specs.declared.Plan.{Plan}
use Rattle.grow.specs.Inner.Meaning.{meaning, Fitting}
use Rattle.store.specs.declared.State.{State}
use Rattle.store.specs.declared.fields.Fields.{Fields}
use Rattle.store.specs.World.{World, world}
use Rattle.store.specs.Calls.{plan_of, append_ground}
use Rattle.store.specs.Inner.Fields.{fields_of, Sized}
use Rattle.store.specs.Inner.Pieces.{Suits, entry_ground, later_ground, is_plain, carried_out}
use Rattle.store.proofs.Grounds.{standing, sized}
use Rattle.store.proofs.Appended as Store
use Rattle.store.proofs.Plain.{append_refused, append_carried, plain, plain_made}
use Rattle.store.proofs.Putting.{recorded_nand, recorded_page, indexed_nor, indexed_section, put_made}
use Rattle.state_bytes.specs.StateBytes.{state_bytes, state_as, state_in}
use Rattle.in_place.specs.Inner.WithLift.{with_lift, nand_after, nor_after}
use Rattle.kept.proofs.Kept.{kept_old}
use Rattle.areas.specs.Areas.{left, append_called}
use Rattle.area_append.specs.Inner.Appending.{Appending}
use Rattle.areas.proofs.Leaves.{right_length}

-- ---- past grounds 1 to 8

module _ (area nand nor : List ℕ) (slots time : ℕ) (load : ℤ) (size : length area ≡ 783) where
  abbrev w : World
  w = world nand nor (state_in area)

  pub refused_left : (note : List ℕ) (n : ℕ) → n ≡ append_ground w slots time load → (n ≡ 0 → ⊥)
      → left n area nand nor ≡ append_called area nand nor slots time load note
  unfolding append_called
  refused_left note n number h =
      right_length area nand nor area nand nor n n (state_in area) _ size refl (sym (kept_old n (state_bytes (state_in area)) area h))
      (append_refused w slots time load note n number h)

  -- a ground from 1 to 8
  pub early_left : (note : List ℕ) (n : ℕ) → n ≡ entry_ground (state_in area) (length nand) (length nor) slots time load → (n ≡ 0 → ⊥)
      → left n area nand nor ≡ append_called area nand nor slots time load note
  early_left note n judged h =
      refused_left note n (Store.number_early nand nor (state_in area) slots time load n judged h) h

  module _ (none : entry_ground (state_in area) (length nand) (length nor) slots time load ≡ 0) where
    pub load_within : load_ok load ≡ true
    load_within = (lift_within _ _ _ _ (Store.entered (state_in area) (length nand) (length nor) slots time load none).lift).load_ok

    module _ (f : Fields) (same : f ≡ fields_of (state_in area)) where
      pub fields_sized : Sized nand nor slots f
      fields_sized =
          subst (Sized nand nor slots) (sym same) (sized nand nor (state_in area) slots
          (standing _ _ _ _ (Store.entered (state_in area) (length nand) (length nor) slots time load none).bounds))

      -- a close can move on by one serial
      pub serial_below : f.current < 4294967295
      serial_below =
          let l = lift_within _ _ _ _ (Store.entered (state_in area) (length nand) (length nor) slots time load none).lift in
          subst (λ (t : Fields). t.current < 4294967295) (sym same) (omega (arith, l.onward))

      -- what is planned by the load as passed
      module _ (m : ℕ) (p : Plan) (z : ℤ) (k : z ≡ load) (suits : Suits f.buckets f.count p)
          (is : (meaning p ≡ plan_of w z) × (m ≡ later_ground w slots z (meaning p))) where
        pub plan_is : meaning p ≡ plan_of w load
        plan_is = is.0 ∙ ap (plan_of w) k

        pub later_is : m ≡ later_ground w slots load (meaning p)
        later_is = is.1 ∙ ap (λ (l : ℤ). later_ground w slots l (meaning p)) k

        pub planned_number : m ≡ append_ground w slots time load
        planned_number = Store.number_later nand nor (state_in area) slots time load 0 (sym none) refl (meaning p) plan_is m later_is

        pub planned_appending : m ≡ 0 → Appending area nand nor slots time load p
        planned_appending h =
            record {
              size = size;
              none = sym h ∙ planned_number;
              accepted = Store.planned_is nand nor (state_in area) slots time load 0 (sym none) refl (meaning p) plan_is m later_is p refl
                  (subst (λ (t : Fields). Suits t.buckets t.count p) same suits);
            }

-- ---- a lift that no ground refuses

-- what a plain lift needs of the area and the chips
pub record Fits (area nand : List ℕ) (f : Fields) (slots nor : ℕ) (p : Plan) : Type 0 where
  pub lifts : number_at area 8 2 ≤ 320
  pub chip : length nand ≡ slots * 16384
  pub serial : 1 ≤ f.current
  pub slots_some : 1 ≤ slots
  pub nor_size : nor ≡ 6144
  pub few : f.buckets ≤ 36
  pub count_most : f.count ≤ 320
  pub fitting : Fitting f.buckets p

module _ (area nand nor : List ℕ) (slots time : ℕ) (load : ℤ) (p : Plan) (is : Appending area nand nor slots time load p) where
  abbrev s : State
  s = state_in area

  pub fits : (f : Fields) → f ≡ fields_of s → Fits area nand f slots (length nor) p
  unfolding state_in state_as
  fits f same =
      let st = standing s (length nand) (length nor) slots is.accepted.bounds in
      subst (λ (t : Fields). Fits area nand t slots (length nor) p) (sym same)
      (record {
        lifts = st.counts.lifts;
        chip = st.chips.nand_size;
        serial = omega (arith, st.serials.first, st.serials.rising);
        slots_some = omega (arith, st.chips.least);
        nor_size = st.chips.nor_size;
        few = st.counts.few;
        count_most = st.counts.lifts;
        fitting = is.accepted.suits.fits;
      })

  pub serials_rise : (f : Fields) → f ≡ fields_of s → f.oldest ≤ f.current
  serials_rise f same =
      subst (λ (t : Fields). t.oldest ≤ t.current) (sym same)
      (standing s (length nand) (length nor) slots is.accepted.bounds).serials.rising

  pub carried_left : (note : List ℕ) (t : State) (z : ℤ) (area' nand' nor' : List ℕ) (u : State) → t ≡ s → z ≡ load
      → world nand' nor' u ≡ carried_out (world nand nor t) slots time z note (meaning p) → area' ≡ state_bytes u
      → left 0 area' nand' nor' ≡ append_called area nand nor slots time load note
  unfolding append_called
  carried_left note t z area' nand' nor' u e k f g =
      right_length area nand nor area' nand' nor' 0 0 u _ is.size refl g
      (append_carried (world nand nor s) slots time load note 0 is.none (meaning p) (world nand' nor' u) load refl is.accepted.is refl
      (rw (e, k) at f))

  -- a plain lift, from what its parts give of the load as passed
  module _ (note : List ℕ) (f : Fields) (same : f ≡ fields_of s) (plainly : is_plain s slots (meaning p) ≡ true) (code : ℕ)
      (coded : code ≡ stored load) (area' nand' nor' nor'' : List ℕ) (slot after : ℕ) (ws : Writes) (z : ℤ) (k : z ≡ load)
      (slot_is : slot ≡ slot_of f.current slots) (ws_is : ws ≡ writes_of (meaning p) f.buckets code f.count)
      (nor_is : nor' ≡ all_written nor ws) (after_is : after ≡ buckets_after (meaning p) f.buckets)
      (area_is : area' ≡ state_bytes (with_lift s time code z note after)) (nand_is : nand' ≡ nand_after nand slot s time code note)
      (nor_after_lem : nor'' ≡ nor_after nor' s code) where
    plain_world : world nand' nor'' (with_lift s time code z note after) ≡ carried_out (world nand nor s) slots time load note (meaning p)
    unfolding with_lift nand_after nor_after
    plain_world =
        put_made nand nor nand' nor'' s _ slots time z load note (meaning p) after _ _ k
        (recorded_nand s time code load note coded nand nand' slots slot _
        (subst (λ (t : Fields). slot ≡ slot_of t.current slots) same slot_is) refl nand_is)
        (indexed_nor s time code load note coded (meaning p) ws nor nor' nor'' _
        (subst (λ (t : Fields). ws ≡ writes_of (meaning p) t.buckets code t.count) same ws_is) nor_is refl nor_after_lem)
        (recorded_page s time code load note coded _ _ refl refl) (indexed_section s time code load note coded _ _ refl refl)
        (subst (λ (t : Fields). after ≡ buckets_after (meaning p) t.buckets) same after_is) refl
        ∙ sym (plain_made nand nor s slots time load note (meaning p) (plain s slots (meaning p) plainly))

    pub plain_left : left 0 area' nand' nor'' ≡ append_called area nand nor slots time load note
    plain_left =
        carried_left note s load area' nand' nor'' (with_lift s time code z note after) refl refl plain_world area_is
