-- What a call over areas that keeps counts leaves, from what the call by value gave, or the plain append. Assumes nothing.
use mathlib.Core.Path.{◌≡◌, refl, sym, ap, ◌∙◌}
use mathlib.Core.Bool.{Bool, true, false, cond}
use mathlib.Core.Option.{some}
use mathlib.Core.List.{List}
use Prim.Native.Nat.{ℕ}
use lib.Dec.{eqb}
use lib.IntN.{ℤ}
use lib.ListN.{length}
use borrow.Author.Tests.{eq-eqb}
use Rattle.store.specs.declared.State.{State}
use Rattle.store.specs.World.{World, world}
use Rattle.store.specs.Calls.{Outcome, append_ground, append_world, append_outcome}
use Rattle.counts.specs.Counts.{counts_broken}
use Rattle.counts.specs.CountsBytes.{counts_bytes, counts_in}
use Rattle.keeping.specs.Keeping.{Counted, counted, counts_appended, append_kept}
use Rattle.keeping.proofs.Numbers.{keeps_plain}
use Rattle.state_bytes.specs.StateBytes.{state_bytes, state_in}
use Rattle.kept.specs.Kept.{kept}
use Rattle.kept.proofs.Kept.{kept_new, kept_old}
use Rattle.areas.specs.Areas.{Left, left, leaves, new_bytes, called, append_called, left_kept, kept_called, append_kept_called}
use Rattle.areas.proofs.Leaves.{state_wrong, answer_wrong, both_right}

module _ (area counts nand nor : List ℕ) (o : Counted) where
  pub wrong_state : (length area ≡ 783 → ⊥) → left_kept 20 area counts nand nor ≡ kept_called area counts nand nor o
  unfolding kept_called
  wrong_state h = state_wrong area counts 88 _ _ h

  pub wrong_counts : length area ≡ 783 → (length counts ≡ 88 → ⊥) → left_kept 20 area counts nand nor ≡ kept_called area counts nand nor o
  unfolding kept_called
  wrong_counts e h = answer_wrong area counts 88 _ _ e h

  module _ (size : length area ≡ 783) (counts_size : length counts ≡ 88) where
    -- from what the call by value gave
    pub given_kept : (n r : ℕ) (s : State) (c area' counts' nand' nor' : List ℕ) → r ≡ n → area' ≡ kept n (state_bytes s) area
        → counts' ≡ kept n (counts_bytes c) counts → counted n nand' nor' s c ≡ o
        → left_kept r area' counts' nand' nor' ≡ kept_called area counts nand nor o
    unfolding kept_called
    given_kept n r s c area' counts' nand' nor' e f g is = rw (e, f, g, ← is) (both_right area counts 88 _ _ size counts_size)

    -- refused
    pub refused_kept : (n : ℕ) → (n ≡ 0 → ⊥) → counted n nand nor (state_in area) (counts_in counts) ≡ o
        → left_kept n area counts nand nor ≡ kept_called area counts nand nor o
    refused_kept n h is =
        given_kept n n (state_in area) (counts_in counts) area counts nand nor refl
        (sym (kept_old n (state_bytes (state_in area)) area h)) (sym (kept_old n (counts_bytes (counts_in counts)) counts h)) is

-- ---- from what the plain append left

same_parts : {n m : ℕ} {a b c d e f g h : List ℕ} → n ≡ m → a ≡ b → c ≡ d → e ≡ f → g ≡ h → left_kept n a c e g ≡ left_kept m b d f h
same_parts p q r s t = rw (p, q, r, s, t)

module _ (area counts nand nor : List ℕ) (size : length area ≡ 783) (counts_size : length counts ≡ 88) (slots time : ℕ) (load : ℤ) (note : List ℕ)
    (unbroken : counts_broken (counts_in counts) ≡ false) (next : List ℕ)
    (next_is : counts_appended (world nand nor (state_in area)) slots load (counts_in counts) ≡ some next) where
  abbrev w : World
  w = world nand nor (state_in area)

  abbrev o : Outcome
  o = append_outcome w slots time load note

  kept_is : append_kept w slots time load note (counts_in counts)
      ≡ record { number = o.number; world = o.world; counts = cond (eqb o.number 0) next (counts_in counts) }
  unfolding append_kept append_outcome
  kept_is = rw next_is (keeps_plain w (append_world w slots time load note) (append_ground w slots time load) (counts_in counts) next unbroken)

  plain_left : append_called area nand nor slots time load note
      ≡ left o.number (kept o.number (new_bytes o.world) area) o.world.nand o.world.nor
  unfolding append_called called leaves
  plain_left = rw (eq-eqb (length area) 783 size)

  counts_left : (n : ℕ) → kept n (counts_bytes next) counts ≡ kept n (counts_bytes (cond (eqb n 0) next (counts_in counts))) counts
  counts_left n = go (eqb n 0)
    where
      go : (t : Bool) → cond t (counts_bytes next) counts ≡ cond t (counts_bytes (cond t next (counts_in counts))) counts
      go true = refl
      go false = refl

  pub plain_kept : (n : ℕ) (area' nand' nor' counts' : List ℕ) → left n area' nand' nor' ≡ append_called area nand nor slots time load note
      → counts' ≡ kept n (counts_bytes next) counts
      → left_kept n area' counts' nand' nor' ≡ append_kept_called area counts nand nor slots time load note
  unfolding append_kept_called kept_called
  plain_kept n area' nand' nor' counts' is f =
      let e : left n area' nand' nor' ≡ left o.number (kept o.number (new_bytes o.world) area) o.world.nand o.world.nor = is ∙ plain_left in
      let m : n ≡ o.number = ap (λ (l : Left). l.number) e in
      same_parts m (ap (λ (l : Left). l.state) e) (f ∙ ap (λ (k : ℕ). kept k (counts_bytes next) counts) m ∙ counts_left o.number)
      (ap (λ (l : Left). l.nand) e) (ap (λ (l : Left). l.nor) e)
      ∙ rw kept_is (both_right area counts 88 _ _ size counts_size)

  pub plain_accepted : (n : ℕ) (area' nand' nor' counts' : List ℕ) → left n area' nand' nor' ≡ append_called area nand nor slots time load note
      → n ≡ 0 → counts' ≡ counts_bytes next → left_kept 0 area' counts' nand' nor' ≡ append_kept_called area counts nand nor slots time load note
  plain_accepted n area' nand' nor' counts' is z f =
      ap (λ (k : ℕ). left_kept k area' counts' nand' nor') (sym z)
      ∙ plain_kept n area' nand' nor' counts' is (f ∙ sym (kept_new n (counts_bytes next) counts z))
