-- The outcome of a conversion on a history's world, for any second store of the right lengths: no ground but 14 ever holds, and an
-- accepted conversion leaves the world of the history in the other form. Assumes nothing.
use mathlib.Core.Path.{◌≡◌, refl, sym, ap, subst, ◌∙◌}
use mathlib.Core.Bool.{Bool, true, false, not, ◌||◌}
use mathlib.Core.List.{List}
use Prim.Native.Nat.{ℕ, ◌-◌, ◌*◌}
use native.Mathlib.Omega.{arith}
use lib.ListN.{length}
use Rattle.form.specs.declared.Form.{Form}
use Rattle.form.specs.declared.Form.TheVariants.{Old, New}
use Rattle.bounds.specs.Grounds.{ground, nand_bad, nor_bad}
use Rattle.store.specs.Bounds.{within_bounds}
use Rattle.paper_log.specs.Log.{open_serial}
use Rattle.refinement.specs.Inner.Image.{History, state_image, image}
use Rattle.refinement.proofs.Good.{Good}
use Rattle.refinement.proofs.Lengths.{length_nor}
use Rattle.refinement.proofs.PageLengths.{length_nand}
use Rattle.refinement.proofs.InBounds.{in_bounds}
use Rattle.refinement.proofs.Grounds.{own_good}
use Rattle.carry.specs.Carried.{other, world_into}
use Rattle.retained.specs.Retained.{any_closed, is_form, is_damaged}
use Rattle.conversion.specs.Outcome.{back_ground, carry_ground, carry_outcome}
use Rattle.round_trips.specs.Reaches.{Chips}
use Rattle.round_trips.proofs.Histories.{into, good_up, good_down}
use Rattle.round_trips.proofs.Worlds.{world_carried}
use Rattle.round_trips.proofs.Tests.{has_none}
use Rattle.round_trips.proofs.Closed.{own_form, undamaged}
use Rattle.round_trips.proofs.Backwards.{strict_if_accepted, accepted_if_good}

module _ (f : Form) (h : History) (g : Good h) (e : h.log.form ≡ other f) where
  abbrev slots : ℕ
  slots = h.log.slots

  -- ---- grounds 13 and 10

  no_other_form : any_closed (is_form f) (image h) slots ≡ false
  unfolding image state_image
  no_other_form = has_none _ (open_serial h.log - h.log.oldest) h.log.oldest (λ i l. own_form f h g e i (omega arith))

  no_damage : any_closed (is_damaged (other f) slots (image h).state.current) (image h) slots ≡ false
  unfolding image state_image
  no_damage = has_none _ (open_serial h.log - h.log.oldest) h.log.oldest (λ i l. undamaged f h g e i (omega arith))

  -- ---- all of them

  -- grounds 1 to 3, before the number n; the lengths are those of the second store
  lengths_pass : (nand_length nor_length n : ℕ) → nand_length ≡ slots * 16384 → nor_length ≡ 6144
      → ground 1 (nand_bad (length (image h).nand) slots || nand_bad nand_length slots)
      (ground 2 (nor_bad (length (image h).nor) || nor_bad nor_length)
      (ground 3 (not (within_bounds (image h).form (image h).state (image h).live slots)) n))
      ≡ n
  unfolding image
  lengths_pass nand_length nor_length n a b =
      rw (a, b, length_nand h g, own_good slots g.least g.most, length_nor h.log.current g.segment.few, in_bounds h g)

  number_is : (nand_length nor_length : ℕ) → nand_length ≡ slots * 16384 → nor_length ≡ 6144
      → carry_ground f (image h) slots nand_length nor_length ≡ ground 14 (back_ground f (image h) slots) 0
  unfolding carry_ground
  number_is nand_length nor_length a b =
      rw (no_other_form, no_damage) (lengths_pass nand_length nor_length (ground 14 (back_ground f (image h) slots) 0) a b)

-- ---- ground 14, and the history in the other form

good_when : (f : Form) (h : History) → Good h → h.log.form ≡ other f → back_ground f (image h) h.log.slots ≡ false → Good (into f h)
good_when Old h g e q = good_down h g e (strict_if_accepted h g e q)
good_when New h g e q = good_up h g e

when_good : (f : Form) (h : History) → Good h → h.log.form ≡ other f → Good (into f h) → back_ground f (image h) h.log.slots ≡ false
when_good Old h g e to = accepted_if_good h g e to
when_good New h g e to = refl

-- ---- the call, with the S of the log

module _ (f : Form) (h : History) (g : Good h) (e : h.log.form ≡ other f) (slots : ℕ) (same : h.log.slots ≡ slots) (nand nor : List ℕ)
    (chips : Chips slots nand nor) where
  pub carry_number : (carry_outcome f (image h) slots nand nor).number ≡ ground 14 (back_ground f (image h) h.log.slots) 0
  unfolding carry_outcome
  carry_number =
      subst (λ (s : ℕ). length nand ≡ s * 16384
      → carry_ground f (image h) s (length nand) (length nor) ≡ ground 14 (back_ground f (image h) h.log.slots) 0) same
      (λ l. number_is f h g e (length nand) (length nor) l chips.nor_size) chips.nand_size

  -- accepted where ground 14 does not hold
  pub accepted_when : back_ground f (image h) h.log.slots ≡ false → (carry_outcome f (image h) slots nand nor).number ≡ 0
  accepted_when q = carry_number ∙ ap (λ (b : Bool). ground 14 b 0) q

  pub when_accepted : (carry_outcome f (image h) slots nand nor).number ≡ 0 → back_ground f (image h) h.log.slots ≡ false
  when_accepted q = go (back_ground f (image h) h.log.slots) (sym carry_number ∙ q)
    where
      go : (b : Bool) → ground 14 b 0 ≡ 0 → b ≡ false
      go true z = absurd (omega arith)
      go false z = refl

  pub good_into : (carry_outcome f (image h) slots nand nor).number ≡ 0 → Good (into f h)
  good_into q = good_when f h g e (when_accepted q)

  pub accepted_good : Good (into f h) → (carry_outcome f (image h) slots nand nor).number ≡ 0
  accepted_good to = accepted_when (when_good f h g e to)

  -- what it leaves
  pub goes_into : (carry_outcome f (image h) slots nand nor).number ≡ 0
      → carry_outcome f (image h) slots nand nor ≡ record { number = 0; world = image (into f h) }
  unfolding carry_outcome
  goes_into q =
      let world : world_into f (image h) slots ≡ image (into f h) =
      subst (λ (s : ℕ). world_into f (image h) s ≡ image (into f h)) same (world_carried f h g e (good_into q)) in
      rw (q, world)
