-- Each return of `format`, `close` and `drop` is what the definition gives there. The hypotheses are what the calls ensure and the
-- tests show. Assumes nothing.
use mathlib.Core.Path.{◌≡◌, refl}
use mathlib.Core.Bool.{Bool, true, false, not}
use mathlib.Core.List.{List}
use Prim.Native.Nat.{ℕ}
use native.Mathlib.Omega.{arith}
use lib.ListN.{length}
use borrow.Author.Tests.{eq-eqb, ne_eqb}
use Rattle.flash.specs.Chip.{slot_of, slot_erased, chip_erased}
use Rattle.form.specs.declared.Form.TheVariants.{New}
use Rattle.segment.specs.Pages.{close_erased}
use Rattle.bounds.specs.Grounds.{nand_bad, nor_bad, format_ground}
use Rattle.store.specs.declared.State.{State}
use Rattle.store.specs.Bounds.{within_bounds}
use Rattle.store.proofs.Rows.{row_same, row_later}
use Rattle.store.specs.World.{World, world, close_world, drop_world, without_oldest, live_after}
use Rattle.store.specs.Calls.{Outcome, outcome, returned, formatted, format_outcome}
use Rattle.store.specs.Calls.{state_ground, close_ground, close_outcome, drop_ground, drop_outcome}
use Rattle.store.specs.Inner.Pieces.{bounds_ground}

-- ---- a refusal, and a call that is accepted

module _ (n g : ℕ) (w after : World) (e : n ≡ g) where
  pub refuses : (n ≡ 0 → ⊥) → ◌≡◌ {A = Outcome} (record { number = n; world = w }) (outcome g w after)
  refuses h = rw (← e, ne_eqb n 0 h)

  pub accepts : (w' : World) → n ≡ 0 → w' ≡ after → ◌≡◌ {A = Outcome} (record { number = 0; world = w' }) (outcome g w after)
  accepts w' h f = rw (← e, h, f)

-- ---- grounds 1 to 3, and those after them

module _ (nand nor : List ℕ) (s : State) (slots n : ℕ) (judged : n ≡ bounds_ground New s 0 (length nand) (length nor) slots) (later : ℕ)
  where
    pub stands_not : (n ≡ 0 → ⊥) → n ≡ state_ground (world nand nor s) slots later
    unfolding bounds_ground
    stands_not h =
        row_same (nand_bad (length nand) slots) (nor_bad (length nor)) (not (within_bounds New s 0 slots)) n 0 later judged
        (λ e. absurd (h e))

    pub stands : (m : ℕ) → n ≡ 0 → m ≡ later → m ≡ state_ground (world nand nor s) slots later
    unfolding bounds_ground
    stands m h f =
        row_later (nand_bad (length nand) slots) (nor_bad (length nor)) (not (within_bounds New s 0 slots)) n 0 later judged h m f

-- ---- format

module _ (nand nor : List ℕ) (slots n : ℕ) (s : State) (judged : n ≡ format_ground (length nand) (length nor) slots)
    (new : s ≡ formatted) where
  pub format_refused : (n ≡ 0 → ⊥) → returned n nand nor s ≡ format_outcome New nand nor slots
  unfolding format_outcome
  format_refused h = rw new (refuses n _ (world nand nor formatted) _ judged h)

  pub format_done : (nand' nor' : List ℕ) → n ≡ 0 → nand' ≡ chip_erased (length nand) → nor' ≡ chip_erased (length nor)
      → returned 0 nand' nor' s ≡ format_outcome New nand nor slots
  unfolding format_outcome
  format_done nand' nor' h e f = accepts n _ (world nand nor formatted) _ judged (world nand' nor' s) h (rw (new, e, f))

-- ---- close

module _ (nand nor : List ℕ) (s : State) (slots n : ℕ) (judged : n ≡ bounds_ground New s 0 (length nand) (length nor) slots) where
  abbrev w : World
  w = world nand nor s

  pub close_bounds : (n ≡ 0 → ⊥) → returned n nand nor s ≡ close_outcome w slots
  unfolding close_outcome close_ground
  close_bounds h = refuses n _ w (close_world w slots) (stands_not nand nor s slots n judged _ h) h

  module _ (zero : n ≡ 0) where
    pub close_none : s.count ≡ 0 → returned 9 nand nor s ≡ close_outcome w slots
    unfolding close_outcome close_ground
    close_none h =
        refuses 9 _ w (close_world w slots) (stands nand nor s slots n judged _ 9 zero (rw (eq-eqb s.count 0 h))) (λ z. omega arith)

    module _ (slot : ℕ) (there : slot ≡ slot_of s.current slots) (e : Bool)
        (erased : e ≡ close_erased nand slot s.count s.buckets)
        (some : s.count ≡ 0 → ⊥) where
      pub close_unerased : not e ≡ true → returned 11 nand nor s ≡ close_outcome w slots
      unfolding close_outcome close_ground
      close_unerased h =
          refuses 11 _ w (close_world w slots) (stands nand nor s slots n judged _ 11 zero
          (rw (ne_eqb s.count 0 some, ← there, ← erased, h))) (λ z. omega arith)

      pub close_done : (nand' nor' : List ℕ) (s' : State) → not e ≡ false → world nand' nor' s' ≡ close_world w slots
          → returned 0 nand' nor' s' ≡ close_outcome w slots
      unfolding close_outcome close_ground
      close_done nand' nor' s' h f =
          accepts 0 _ w (close_world w slots) (stands nand nor s slots n judged _ 0 zero
          (rw (ne_eqb s.count 0 some, ← there, ← erased, h)))
          (world nand' nor' s') refl f

  -- ---- drop

  pub drop_bounds : (n ≡ 0 → ⊥) → returned n nand nor s ≡ drop_outcome w slots
  unfolding drop_outcome drop_ground
  drop_bounds h = refuses n _ w (drop_world w slots) (stands_not nand nor s slots n judged _ h) h

  module _ (zero : n ≡ 0) where
    pub drop_none : s.oldest ≡ s.current → returned 9 nand nor s ≡ drop_outcome w slots
    unfolding drop_outcome drop_ground
    drop_none h =
        refuses 9 _ w (drop_world w slots) (stands nand nor s slots n judged _ 9 zero (rw (eq-eqb s.oldest s.current h)))
        (λ z. omega arith)

    pub drop_done : (nand' : List ℕ) (s' : State) → (s.oldest ≡ s.current → ⊥) → nand' ≡ slot_erased nand (slot_of s.oldest slots)
        → s' ≡ without_oldest s → returned 0 nand' nor s' ≡ drop_outcome w slots
    unfolding drop_outcome drop_ground drop_world live_after
    drop_done nand' s' some e f =
        accepts 0 _ w (drop_world w slots) (stands nand nor s slots n judged _ 0 zero (rw (ne_eqb s.oldest s.current some)))
        (world nand' nor s') refl (rw (e, f))
