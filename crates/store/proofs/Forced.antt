-- The drop that the first append to a serial forces. Assumes nothing.
use mathlib.Core.Path.{◌≡◌, sym, ◌∙◌}
use mathlib.Core.Bool.{Bool, true, false, not}
use mathlib.Core.List.{List, []}
use Prim.Native.Nat.{ℕ, ◌-◌, ◌≤◌, ◌<◌}
use native.Mathlib.Omega.{arith}
use lib.Dec.{eqb, leb}
use borrow.Author.Tests.{leb-true, not-true, not-false}
use Rattle.codec.proofs.Truth.{and_right}
use Rattle.flash.specs.Chip.{slot_of, slot_erased}
use Rattle.store.specs.declared.State.{State}
use Rattle.store.specs.World.{world, drop_world, without_oldest, live_after}
use Rattle.store.specs.Inner.Pieces.{drop_due}
use Rattle.store.specs.Calls.{drops_first}

module _ (nand : List ℕ) (s : State) (slots : ℕ) (first : Bool) (e : first ≡ drops_first s slots) where
  -- there is a closed segment to drop
  pub drops_some : not first ≡ false → 1 ≤ slots → s.oldest < s.current
  drops_some h k =
      let t : leb slots (s.current - s.oldest) ≡ true = and_right (eqb s.count 0) (leb slots (s.current - s.oldest))
      (sym e ∙ not-false first h) in
      omega (arith, leb-true slots (s.current - s.oldest) t)

  pub due_not : not first ≡ true → world nand [] s ≡ drop_due (world nand [] s) slots
  unfolding drop_due
  due_not h = rw (← e, not-true first h)

  pub due_done : (nand' : List ℕ) (s' : State) → not first ≡ false → nand' ≡ slot_erased nand (slot_of s.oldest slots)
      → s' ≡ without_oldest s → world nand' [] s' ≡ drop_due (world nand [] s) slots
  unfolding drop_due drop_world live_after
  due_done nand' s' h g i = rw (← e, not-false first h, g, i)
