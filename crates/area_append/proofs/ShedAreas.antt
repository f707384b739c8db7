-- An append over areas that keeps counts, where a drop comes first and where none does: the counts to come. Assumes nothing.
use mathlib.Core.Path.{◌≡◌, refl, sym, ap, subst, ◌∙◌}
use mathlib.Core.Bool.{Bool, true, false, false≢true}
use mathlib.Core.Option.{Option, none, some}
use mathlib.Core.List.{List}
use Prim.Native.Nat.{ℕ, zero, suc, ◌-◌, ◌*◌, ◌^◌, ◌≤◌, ◌<◌}
use native.Mathlib.Omega.{arith}
use lib.IntN.{ℤ}
use lib.ListN.{length}
use Rattle.codec.specs.Number.{number_at}
use Rattle.codec.proofs.Areas.{length_part}
use Rattle.lift.specs.Limits.{load_ok}
use Rattle.bounds.specs.Grounds.{sooner}
use Rattle.bounds.proofs.Within.{Liftable, lift_within}
use Rattle.skiplist.specs.PointerBytes.{pointers_at}
use Rattle.tree.specs.Plan.{is_no_room, plan_on}
use Rattle.store.specs.declared.State.{State}
use Rattle.store.specs.World.{World, world}
use Rattle.store.specs.Calls.{plan_of, room_world}
use Rattle.store.proofs.Grounds.{Standing, standing}
use Rattle.store.proofs.Appended as Store
use Rattle.counts.specs.CountsBytes.{counts_in}
use Rattle.keeping.specs.Keeping.{counts_shed}
use Rattle.keeping.specs.Inner.Shedding.{shed_from, shed_if, Whole}
use Rattle.keeping.proofs.Shedding.{shed_is}
use Rattle.keeping.proofs.Appends.{append_lost}
use Rattle.state_bytes.specs.StateBytes.{state_in, state_as}
use Rattle.areas.specs.Areas.{Left, left, left_kept, append_kept_called}
use Rattle.area_append.specs.Inner.Appending.{drops_due, Counting, Shedding}
use Rattle.areas.proofs.Leaves.{page_size}
use Rattle.areas.proofs.KeptCounts.{refused_kept}

-- a plan that closes the segment finds a lift there
closes_some : (area : List ℕ) (buckets count : ℕ) (loads : List ℕ) (l : ℕ) → is_no_room (plan_on area buckets count loads l) ≡ true → 1 ≤ count
unfolding plan_on
closes_some area buckets zero loads l e = absurd (false≢true e)
closes_some area buckets (suc n) loads l e = omega arith

-- heads and buffers of the state in an area
whole_in : (area : List ℕ) → length area ≡ 783 → Whole (state_in area)
unfolding state_in state_as pointers_at
whole_in area e = record { heads_four = refl; page_size = page_size area e; bloom_size = length_part area 639 128 (omega arith) }

module _ (area counts nand nor : List ℕ) (slots time : ℕ) (load : ℤ) (c : Counting area counts nand nor slots time load) where
  abbrev s : State
  s = state_in area

  abbrev w : World
  w = world nand nor s

  stands : Standing s (length nand) (length nor) slots
  stands = standing _ _ _ _ (Store.entered s (length nand) (length nor) slots time load c.entered).bounds

  lifts : Liftable time load s.next s.current
  lifts = lift_within _ _ _ _ (Store.entered s (length nand) (length nor) slots time load c.entered).lift

  pub load_in_lem : load_ok load ≡ true
  load_in_lem = lifts.load_ok

  -- what is read of the area for it
  pub shed_ready : (oldest current : ℕ) → oldest ≡ number_at area 0 4 → current ≡ number_at area 4 4
      → (length nand ≡ slots * 16384) × (1 ≤ slots) × (1 ≤ oldest) × (current < 2 ^ 32 - 1)
  unfolding state_in state_as
  shed_ready oldest current e f =
      let st = stands in
      let l = lifts in
      (st.chips.nand_size, omega (arith, st.chips.least), omega (arith, st.serials.first), omega (arith, l.onward))

  -- a drop comes first
  pub shed_due : drops_due w slots load ≡ true → (oldest current count : ℕ) (have : List ℕ) (d : Option (List ℕ)) → oldest ≡ number_at area 0 4
      → current ≡ number_at area 4 4 → count ≡ number_at area 8 2 → have ≡ counts_in counts → d ≡ shed_from nand slots oldest current count have
      → d ≡ counts_shed (room_world w slots (plan_of w load)) slots (counts_in counts)
  unfolding state_in state_as
  shed_due due oldest current count have d e f g h is =
      is ∙ rw (e, f, g, h) (ap (λ (t : Bool). shed_if t nand slots s.oldest s.current s.count (counts_in counts)) (sym due)
      ∙ shed_is nand nor s slots stands (whole_in area c.size) (plan_of w load) (closes_some _ _ _ _ _) (counts_in counts))

  -- none does
  pub shed_none : drops_due w slots load ≡ false → counts_shed (room_world w slots (plan_of w load)) slots (counts_in counts) ≡ some (counts_in counts)
  unfolding counts_shed
  shed_none e = rw e

  pub lost_kept : (note : List ℕ) (d : Option (List ℕ)) → d ≡ counts_shed (room_world w slots (plan_of w load)) slots (counts_in counts) → d ≡ none
      → left_kept 10 area counts nand nor ≡ append_kept_called area counts nand nor slots time load note
  unfolding append_kept_called sooner
  lost_kept note d shed e =
      refused_kept area counts nand nor _ c.size c.counts_size 10 (λ z. omega arith)
      (append_lost nand nor s slots time load note (counts_in counts) 0 (sym c.entered) 0 (rw c.unbroken) refl (plan_of w load) refl _ refl d shed e)

  -- an append that stopped has changed nothing; z is the load as passed
  module _ (l : Left) (same : l ≡ left 255 area nand nor) (z : ℤ) (k : z ≡ load) where
    pub shedding_on : drops_due w slots load ≡ true → Shedding l.state counts l.nand l.nor slots time z
    shedding_on due =
        rw k (subst (λ (m : Left). Shedding m.state counts m.nand m.nor slots time load) (sym same) (record { counting = c; due = due }))

    pub shedding_same : (note : List ℕ) → append_kept_called l.state counts l.nand l.nor slots time z note
        ≡ append_kept_called area counts nand nor slots time load note
    shedding_same note =
        rw k (ap (λ (m : Left). append_kept_called m.state counts m.nand m.nor slots time load note) same)
