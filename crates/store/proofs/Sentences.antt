-- Sentences of document 01 that a definition carries in other words: what a forced drop erases and which serial is oldest then, by the bounds of
-- the serials; and that a format is accepted exactly where S and the two lengths are right.
use mathlib.Core.Path.{◌≡◌, sym, ap, ◌∙◌}
use mathlib.Core.Bool.{true}
use mathlib.Core.List.{List}
use Prim.Native.Nat.{ℕ, ◌+◌, ◌-◌, ◌*◌, ◌%◌, ◌≤◌}
use native.Mathlib.Nat.{add-mod_right}
use native.Mathlib.Omega.{arith}
use lib.Dec.{eqb, leb}
use lib.ListN.{length}
use borrow.Author.Tests.{eq-eqb, le-leb, le-ltb, leb-true}
use Rattle.codec.proofs.Truth.{and_right}
use Rattle.flash.specs.Chip.{slot_of}
use Rattle.form.specs.declared.Form.{Form}
use Rattle.bounds.specs.Grounds.{format_ground}
use Rattle.bounds.proofs.Within as Within
use Rattle.store.specs.declared.State.{State}
use Rattle.store.specs.World.{without_oldest}
use Rattle.store.specs.Calls.{first_grounds, drops_first, format_outcome}
use Rattle.store.specs.Sentences.{ForcedDrop, RightSizes}
use Rattle.store.proofs.Grounds.{standing_in}

-- ---- a forced drop

-- serials that are S apart share a slot
slot_again : (n m slots : ℕ) → 1 ≤ n → m ≡ n + slots → slot_of n slots ≡ slot_of m slots
unfolding slot_of
slot_again n m slots h e =
    let d : m - 1 ≡ n - 1 + slots = omega arith in
    sym (ap (λ (k : ℕ). k % slots) d ∙ add-mod_right (n - 1) slots)

module _ (f : Form) (s : State) (live nand nor slots : ℕ) (standing : first_grounds f s live nand nor slots 0 ≡ 0) where
  pub forced_drop : drops_first s slots ≡ true → ForcedDrop s slots
  unfolding without_oldest
  forced_drop e =
      let st = (standing_in f s live nand nor slots standing).serials in
      let far = leb-true slots (s.current - s.oldest) (and_right (eqb s.count 0) (leb slots (s.current - s.oldest)) e) in
      let apart : s.current ≡ s.oldest + slots = omega (arith, far, st.rising, st.held) in
      record {
        due = omega (arith, apart);
        slot = slot_again s.oldest s.current slots st.first apart;
        oldest = omega (arith, apart);
      }

  -- and the other way round: it is due at count 0 wherever oldest ≤ n − S
  pub forced_if : s.count ≡ 0 → s.oldest + slots ≤ s.current → drops_first s slots ≡ true
  forced_if z h = rw (eq-eqb s.count 0 z) (le-leb slots (s.current - s.oldest) (omega arith))

-- ---- format

pub format_accepted_if : (f : Form) (nand nor : List ℕ) (slots : ℕ) → RightSizes nand nor slots → (format_outcome f nand nor slots).number ≡ 0
unfolding format_outcome format_ground
format_accepted_if f nand nor slots r =
    rw (
      le-ltb slots 2 r.least,
      le-ltb 4096 slots r.most,
      eq-eqb (length nand) (slots * 16384) r.nand_size,
      eq-eqb (length nor) 6144 r.nor_size,
    )

pub format_accepted_only_if : (f : Form) (nand nor : List ℕ) (slots : ℕ) → (format_outcome f nand nor slots).number ≡ 0 → RightSizes nand nor slots
unfolding format_outcome
format_accepted_only_if f nand nor slots e =
    let fit = Within.chips_fitting (length nand) (length nor) slots e in
    record { least = fit.least; most = fit.most; nand_size = fit.nand_size; nor_size = fit.nor_size }
