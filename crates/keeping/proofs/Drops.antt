-- Each return of a drop that keeps counts is what the definition gives there. The hypotheses are what the calls ensure and the tests show.
-- Assumes nothing.
use mathlib.Core.Path.{◌≡◌, refl, sym, ap, ◌∙◌}
use mathlib.Core.Bool.{Bool, true, false, cond, not}
use mathlib.Core.Logic.{◌⊎◌, inl, inr}
use mathlib.Core.Option.{Option, none, some}
use mathlib.Core.List.{List}
use Prim.Native.Nat.{ℕ, ◌<◌}
use native.Mathlib.Decide.{ℕ_discrete}
use native.Mathlib.Omega.{arith}
use lib.Dec.{eqb}
use lib.ListN.{length}
use borrow.Author.Tests.{eq-eqb, ne_eqb}
use Rattle.form.specs.declared.Form.TheVariants.{New}
use Rattle.bounds.specs.Grounds.{ground, sooner, nand_bad, nor_bad}
use Rattle.counts.specs.Counts.{counts_broken}
use Rattle.store.specs.declared.State.{State}
use Rattle.store.specs.Bounds.{within_bounds}
use Rattle.store.specs.World.{World, world}
use Rattle.store.specs.Calls.{Outcome, returned, drop_ground, drop_outcome}
use Rattle.store.specs.Inner.Pieces.{bounds_ground}
use Rattle.store.proofs.Outcomes.{stands_not, stands}
use Rattle.keeping.specs.Keeping.{counted, with_ground, is_lost, counts_dropped, drop_kept}
use Rattle.keeping.proofs.Numbers.{none_before, early_number, late_number, refuses, accepts}

three : (a b c : Bool) → ground 1 a (ground 2 b (ground 3 c 0)) < 9
three true b c = omega arith
three false true c = omega arith
three false false true = omega arith
three false false false = omega arith

bounds_small : (s : State) (nand nor slots : ℕ) → bounds_ground New s 0 nand nor slots < 9
unfolding bounds_ground
bounds_small s nand nor slots = three (nand_bad nand slots) (nor_bad nor) (not (within_bounds New s 0 slots))

nine_late : (t : Bool) → (ground 9 t 0 ≡ 0) ⊎ (3 < ground 9 t 0)
nine_late true = inr (omega arith)
nine_late false = inl refl

module _ (nand nor : List ℕ) (s : State) (slots : ℕ) (counts : List ℕ) (g : ℕ)
    (judged : g ≡ bounds_ground New s 0 (length nand) (length nor) slots) (n : ℕ) (number : n ≡ with_ground 3 (counts_broken counts) g) where
  abbrev w : World
  w = world nand nor s

  abbrev l : ℕ
  l = ground 9 (eqb s.oldest s.current) 0

  abbrev next : Option (List ℕ)
  next = counts_dropped w slots counts

  small : g < 9
  small = rw judged (bounds_small s (length nand) (length nor) slots)

  plain_number : drop_ground w slots ≡ cond (eqb g 0) l g
  unfolding drop_ground
  plain_number = go (ℕ_discrete g 0)
    where
      go : Dec (g ≡ 0) → drop_ground w slots ≡ cond (eqb g 0) l g
      go (yes z) = sym (stands nand nor s slots g judged _ l z refl) ∙ rw z
      go (no f) = sym (stands_not nand nor s slots g judged _ f) ∙ rw (ne_eqb g 0 f)

  pub drop_early : (n ≡ 0 → ⊥) → counted n nand nor s counts ≡ drop_kept w slots counts
  unfolding drop_kept drop_outcome
  drop_early f =
      refuses w counts (drop_outcome w slots) next n
      (number ∙ early_number (counts_broken counts) (is_lost next) g l _ small (nine_late (eqb s.oldest s.current)) plain_number (λ z. f (number ∙ z))) f

  -- neither the counts nor grounds 1 to 3 refuse it
  module _ (zero : n ≡ 0) where
    pub passed : (counts_broken counts ≡ false) × (g ≡ 0)
    passed = none_before (counts_broken counts) (is_lost next) g l _ small (nine_late (eqb s.oldest s.current)) plain_number (sym number ∙ zero)

    late : with_ground 10 (is_lost next) l ≡ with_ground 3 (counts_broken counts) (with_ground 10 (is_lost next) (drop_ground w slots))
    late = late_number (counts_broken counts) (is_lost next) g l _ small (nine_late (eqb s.oldest s.current)) plain_number (sym number ∙ zero)

    pub drop_none : s.oldest ≡ s.current → counted 9 nand nor s counts ≡ drop_kept w slots counts
    unfolding drop_kept drop_outcome sooner
    drop_none e =
        refuses w counts (drop_outcome w slots) next 9 (sym (rw (eq-eqb s.oldest s.current e) (nine (is_lost next))) ∙ late) (λ z. omega arith)
      where
        nine : (t : Bool) → with_ground 10 t 9 ≡ 9
        nine true = refl
        nine false = refl

    module _ (some_closed : s.oldest ≡ s.current → ⊥) where
      late_ten : (t : Bool) → is_lost next ≡ t → with_ground 10 t 0 ≡ with_ground 3 (counts_broken counts) (with_ground 10 (is_lost next) (drop_ground w slots))
      late_ten t e = sym (rw (e, ne_eqb s.oldest s.current some_closed)) ∙ late

      pub drop_lost : next ≡ none → counted 10 nand nor s counts ≡ drop_kept w slots counts
      unfolding drop_kept drop_outcome sooner
      drop_lost e = refuses w counts (drop_outcome w slots) next 10 (late_ten true (ap is_lost e)) (λ z. omega arith)

      -- the plain drop is not refused
      pub drop_accepted : (nand' : List ℕ) (s' : State) (a : ℕ) → returned a nand' nor s' ≡ drop_outcome w slots → a ≡ 0
      unfolding drop_outcome
      drop_accepted nand' s' a is = ap (λ (o : Outcome). o.number) is ∙ plain_number ∙ rw (passed.1, ne_eqb s.oldest s.current some_closed)

      pub drop_done : (c : List ℕ) → next ≡ some c → (nand' : List ℕ) (s' : State) (a : ℕ) → returned a nand' nor s' ≡ drop_outcome w slots
          → counted a nand' nor s' c ≡ drop_kept w slots counts
      unfolding drop_kept drop_outcome sooner
      drop_done c e nand' s' a is =
          let z : a ≡ 0 = drop_accepted nand' s' a is in
          rw z (accepts w counts (drop_outcome w slots) next 0 (late_ten false (ap is_lost e)) (world nand' nor s') c refl (ap (λ (o : Outcome). o.world) is) e)
