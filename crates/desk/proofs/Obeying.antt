-- What the call that a line names leaves is what the line does: one law for each form. Assumes nothing.
use mathlib.Core.Path.{◌≡◌, ap}
use mathlib.Core.Logic.{◌⊎◌, inl, inr}
use mathlib.Core.List.{List}
use Prim.Native.Nat.{ℕ}
use lib.IntN.{ℤ}
use lib.ListN.{replicate}
use Rattle.lines.specs.declared.Line.{Line}
use Rattle.lines.specs.declared.Line.TheVariants.{Append, Close, Drop, Search, Tally, Page, Other}
use Rattle.store.specs.declared.State.{State}
use Rattle.store.specs.World.{World, world}
use Rattle.store.specs.Calls.{Outcome, returned, append_outcome, close_outcome, drop_outcome}
use Rattle.desk.specs.Obeyed.{obeyed}

module _ (w : World) {l : Line} where
  module _ {n : ℕ} {nand nor : List ℕ} {s : State} where
    pub append_obeyed : {t : ℕ} {k z : ℤ} → l ≡ Append t k → z ≡ k → returned n nand nor s ≡ append_outcome w 2 t z (replicate 20 0)
        → world nand nor s ≡ obeyed w l
    unfolding obeyed
    append_obeyed e v h = rw (e, ← v) (ap (λ (o : Outcome). o.world) h)

    pub close_obeyed : l ≡ Close → returned n nand nor s ≡ close_outcome w 2 → world nand nor s ≡ obeyed w l
    unfolding obeyed
    close_obeyed e h = rw e (ap (λ (o : Outcome). o.world) h)

    pub drop_obeyed : l ≡ Drop → returned n nand nor s ≡ drop_outcome w 2 → world nand nor s ≡ obeyed w l
    unfolding obeyed
    drop_obeyed e h = rw e (ap (λ (o : Outcome). o.world) h)

  -- the lines that only ask
  pub asked_obeyed : ((t1 : ℕ) × (t2 : ℕ) × (k1 : ℤ) × (k2 : ℤ) × l ≡ Search t1 t2 k1 k2)
      ⊎ (((t1 : ℕ) × (t2 : ℕ) × l ≡ Tally t1 t2) ⊎ (((t1 : ℕ) × (t2 : ℕ) × l ≡ Page t1 t2) ⊎ (l ≡ Other)))
      → w ≡ obeyed w l
  unfolding obeyed
  asked_obeyed (inl (t1, t2, k1, k2, e)) = rw e
  asked_obeyed (inr (inl (t1, t2, e))) = rw e
  asked_obeyed (inr (inr (inl (t1, t2, e)))) = rw e
  asked_obeyed (inr (inr (inr e))) = rw e
