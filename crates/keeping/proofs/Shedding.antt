-- The counts after a forced drop can be read before anything is written: a close programs another slot than that of the segment that goes.
-- Assumes nothing.
use mathlib.Core.Path.{◌≡◌, refl, sym, ap, ◌∙◌}
use mathlib.Core.Bool.{Bool, true, false, cond}
use mathlib.Core.Option.{some, none}
use mathlib.Core.List.{List}
use Prim.Native.Nat.{ℕ, ◌+◌, ◌-◌, ◌≤◌}
use native.Mathlib.Omega.{arith}
use lib.Dec.{eqb, leb}
use lib.IntN.{ℤ}
use lib.ListN.{length}
use borrow.Author.Tests.{eqb-true, leb-true, ne_eqb, eq-eqb}
use Rattle.codec.proofs.Truth.{and_parts}
use Rattle.flash.specs.Chip.{slot_of, page_of, pages_of}
use Rattle.flash.proofs.Slots.{slots_differ, slot_below}
use Rattle.lift.specs.Limits.{stored}
use Rattle.plate.specs.Total.{total}
use Rattle.form.specs.declared.Form.TheVariants.{New}
use Rattle.tree.specs.Plan.{Plan, is_no_room}
use Rattle.segment.proofs.ClosedPages.{Shaped, page_other}
use Rattle.segment.proofs.LiftsRead.{lifts_other}
use Rattle.counts.specs.Counts.{one_more, codes_in, without_segment}
use Rattle.counts.proofs.Totals.{segment_total}
use Rattle.store.specs.declared.State.{State}
use Rattle.store.specs.World.{World, world, closing, close_world, moved_on}
use Rattle.store.specs.Calls.{plan_of, room_world, drops_first}
use Rattle.store.proofs.Grounds.{Standing}
use Rattle.keeping.specs.Keeping.{counts_dropped, counts_shed, counts_appended}
use Rattle.keeping.specs.Inner.Shedding.{open_then, shed_from, shed_if, Whole}

-- the same segment in another chip
segment_same : (a b : List ℕ) (slots slot before : ℕ) (counts : List ℕ) → page_of a slot 31 ≡ page_of b slot 31
    → pages_of a slot 0 20 ≡ pages_of b slot 0 20 → without_segment New a slots slot before counts ≡ without_segment New b slots slot before counts
unfolding without_segment codes_in
segment_same a b slots slot before counts e f = rw (e, f)

module _ (nand nor : List ℕ) (s : State) (slots : ℕ) (st : Standing s (length nand) (length nor) slots) (whole : Whole s) (p : Plan)
    (some_lift : is_no_room p ≡ true → 1 ≤ s.count) (counts : List ℕ) where
  abbrev w : World
  w = world nand nor s

  -- ---- a close comes first

  shaped : 1 ≤ s.count → Shaped nor (closing New s)
  unfolding closing
  shaped h = record {
    nor_size = st.chips.nor_size;
    some = h;
    most = st.counts.lifts;
    few = st.counts.few;
    heads_four = whole.heads_four;
    page_size = whole.page_size;
    bloom_size = whole.bloom_size;
  }

  other_slot : 1 ≤ s.count → slots ≤ s.current + 1 - s.oldest → slot_of s.oldest slots ≡ slot_of s.current slots → ⊥
  other_slot h l =
      let f = st.serials.fewer h in
      slots_differ slots s.oldest s.current st.serials.first (omega (arith, st.chips.least)) (omega arith)

  after_close : 1 ≤ s.count → slots ≤ s.current + 1 - s.oldest → counts_dropped (close_world w slots) slots counts
      ≡ shed_from nand slots s.oldest s.current s.count counts
  unfolding close_world moved_on
  after_close h l =
      let slot : ℕ = slot_of s.oldest slots in
      let some_slots : 1 ≤ slots = omega (arith, st.chips.least) in
      let here = slot_below slots s.oldest some_slots in
      let there = slot_below slots s.current some_slots in
      let k = shaped h in
      let m = other_slot h l in
      let open_is : open_then s.current s.count ≡ s.current + 1 = rw (ne_eqb s.count 0 (λ z. omega arith)) in
      segment_same _ nand slots slot (s.current + 1) counts
      (page_other nor (closing New s) k slots (slot_of s.current slots) there nand st.chips.nand_size slot 31 here (omega arith) m)
      (lifts_other nor (closing New s) k slots (slot_of s.current slots) there nand st.chips.nand_size slot here m)
      ∙ ap (λ (n : ℕ). without_segment New nand slots slot n counts) (sym open_is)

  -- ---- or none

  abbrev room : World
  room = room_world w slots p

  shed_room : (full : Bool) → is_no_room p ≡ full → drops_first room.state slots ≡ true
      → counts_dropped room slots counts ≡ shed_from nand slots s.oldest s.current s.count counts
  unfolding room_world close_world moved_on
  shed_room true e d =
      rw e (after_close (some_lift e) (leb-true slots (s.current + 1 - s.oldest) (rw e at d)))
  shed_room false e d =
      let t = and_parts (eqb s.count 0) (leb slots (s.current - s.oldest)) (rw e at d) in
      rw (e, eq-eqb s.count 0 (eqb-true s.count 0 t.0))

  pub shed_is : shed_if (drops_first room.state slots) nand slots s.oldest s.current s.count counts ≡ counts_shed room slots counts
  unfolding counts_shed
  shed_is = go (drops_first room.state slots) refl
    where
      go : (t : Bool) → drops_first room.state slots ≡ t
          → shed_if t nand slots s.oldest s.current s.count counts ≡ cond t (counts_dropped room slots counts) (some counts)
      go true e = sym (shed_room (is_no_room p) refl e)
      go false e = refl

-- the sum does not rise
pub shed_total : (r : World) (slots : ℕ) (counts next : List ℕ) → counts_shed r slots counts ≡ some next → total next ≤ total counts
unfolding counts_shed
shed_total r slots counts next e = go (drops_first r.state slots) e
  where
    go : (t : Bool) → cond t (counts_dropped r slots counts) (some counts) ≡ some next → total next ≤ total counts
    go true f = segment_total r.form r.nand slots (slot_of r.state.oldest slots) r.state.current counts next f
    go false f = let g : counts ≡ next = cc f in rw g (omega arith)

-- ---- and then the lift

module _ (w : World) (slots : ℕ) (load : ℤ) (counts : List ℕ) where
  pub lost_lift : counts_shed (room_world w slots (plan_of w load)) slots counts ≡ none → counts_appended w slots load counts ≡ none
  unfolding counts_appended
  lost_lift e = rw e

  pub kept_lift : (next : List ℕ) → counts_shed (room_world w slots (plan_of w load)) slots counts ≡ some next
      → counts_appended w slots load counts ≡ some (one_more next (stored load))
  unfolding counts_appended
  kept_lift next e = rw e
