-- Grounds 1 to 3 as tested, and what is known where none holds. Assumes nothing.
use mathlib.Core.Path.{◌≡◌, sym, ◌∙◌}
use mathlib.Core.Bool.{Bool, true, false, not, ◌&&◌}
use mathlib.Core.List.{List, [], ◌∷◌}
use Prim.Native.Nat.{ℕ}
use native.Mathlib.Omega.{arith}
use lib.ListN.{length, get_or}
use borrow.Author.Tests.{not-false}
use Rattle.codec.proofs.Truth.{and_left, and_right, and_true}
use Rattle.bounds.specs.Bounds.{serials_ok, counts_ok, times_ok, span_ok, loads_ok}
use Rattle.bounds.specs.Grounds.{ground, nand_bad, nor_bad, format_ground}
use Rattle.bounds.proofs.Within as Within
use Rattle.form.specs.declared.Form.{Form}
use Rattle.form.specs.declared.Form.TheVariants.{New}
use Rattle.skiplist.specs.declared.Pointer.{Pointer}
use Rattle.skiplist.specs.Skip.{in_slots}
use Rattle.store.specs.declared.State.{State}
use Rattle.store.specs.Bounds.{heads_ok, within_bounds}
use Rattle.store.proofs.Rows.{row}
use Rattle.store.specs.Inner.Fields.{fields_of, Sized}
use Rattle.store.specs.Inner.Pieces.{bounds_ground}

-- ---- ground 3

pub four_heads : (slots : ℕ) (ps : List Pointer) (e : Pointer) (a b c d : Bool) → length ps ≡ 4
    → a ≡ in_slots (get_or ps 0 e) slots → b ≡ in_slots (get_or ps 1 e) slots → c ≡ in_slots (get_or ps 2 e) slots
    → d ≡ in_slots (get_or ps 3 e) slots
    → (a && (b && (c && d))) ≡ heads_ok ps slots
unfolding heads_ok
four_heads slots [] e a b c d l p q r s = absurd (omega arith)
four_heads slots (w ∷ []) e a b c d l p q r s = absurd (omega arith)
four_heads slots (w ∷ x ∷ []) e a b c d l p q r s = absurd (omega arith)
four_heads slots (w ∷ x ∷ y ∷ []) e a b c d l p q r s = absurd (omega arith)
four_heads slots (w ∷ x ∷ y ∷ z ∷ []) e a b c d l p q r s = rw (p, q, r, s, and_true (in_slots z slots))
four_heads slots (w ∷ x ∷ y ∷ z ∷ v ∷ ps) e a b c d l p q r s = absurd (omega arith)

pub six_tests : (v : Form) (s : State) (live slots : ℕ) (a b c d e f : Bool) → a ≡ serials_ok s.oldest s.current s.count slots
    → b ≡ counts_ok s.current s.count s.buckets → c ≡ times_ok v s.current s.count s.next live s.start
    → d ≡ span_ok s.count s.low s.high → e ≡ loads_ok s.loads → f ≡ heads_ok s.heads slots
    → (a && (b && (c && (d && (e && f))))) ≡ within_bounds v s live slots
unfolding within_bounds
six_tests v s live slots a b c d e f p q r t u w = rw (p, q, r, t, u, w)

-- ---- grounds 1 to 3

module _ (f : Form) (s : State) (live nand nor slots n : ℕ) (judged : n ≡ format_ground nand nor slots) where
  pub bounds_chips : (n ≡ 0 → ⊥) → n ≡ bounds_ground f s live nand nor slots
  unfolding bounds_ground format_ground
  bounds_chips h = go (nand_bad nand slots) (nor_bad nor) judged
    where
      go : (a b : Bool) → n ≡ ground 1 a (ground 2 b 0) → n ≡ ground 1 a (ground 2 b (ground 3 (not (within_bounds f s live slots)) 0))
      go true b e = e
      go false true e = e
      go false false e = absurd (h e)

  pub bounds_state : (r : Bool) → n ≡ 0 → r ≡ within_bounds f s live slots → ground 3 (not r) 0 ≡ bounds_ground f s live nand nor slots
  unfolding bounds_ground format_ground
  bounds_state r z e = go (nand_bad nand slots) (nor_bad nor) judged
    where
      go : (a b : Bool) → n ≡ ground 1 a (ground 2 b 0)
          → ground 3 (not r) 0 ≡ ground 1 a (ground 2 b (ground 3 (not (within_bounds f s live slots)) 0))
      go true b d = absurd (omega arith)
      go false true d = absurd (omega arith)
      go false false d = rw e

-- ---- where none of them holds

pub record Standing (s : State) (nand nor slots : ℕ) : Type 0 where
  pub chips : Within.ChipsFit nand nor slots
  pub serials : Within.Serials s.oldest s.current s.count slots
  pub counts : Within.Counts s.current s.count s.buckets
  pub span : Within.Span s.low s.high
  pub loads : loads_ok s.loads ≡ true
  pub heads : heads_ok s.heads slots ≡ true

within : (f : Form) (s : State) (live nand nor slots : ℕ) → Within.ChipsFit nand nor slots → within_bounds f s live slots ≡ true
    → Standing s nand nor slots
unfolding within_bounds
within f s live nand nor slots fit e =
    let a = serials_ok s.oldest s.current s.count slots in
    let b = counts_ok s.current s.count s.buckets in
    let c = times_ok f s.current s.count s.next live s.start in
    let d = span_ok s.count s.low s.high in
    let l = loads_ok s.loads in
    let h = heads_ok s.heads slots in
    let e1 = and_right a (b && (c && (d && (l && h)))) e in
    let e2 = and_right b (c && (d && (l && h))) e1 in
    let e3 = and_right c (d && (l && h)) e2 in
    let e4 = and_right d (l && h) e3 in
    record {
      chips = fit;
      serials = Within.serials_within _ _ _ _ (and_left a (b && (c && (d && (l && h)))) e);
      counts = Within.counts_within _ _ _ (and_left b (c && (d && (l && h))) e1);
      span = Within.span_within _ _ _ (and_left d (l && h) e3);
      loads = and_left l h e4;
      heads = and_right l h e4;
    }

-- in either form
pub standing_in : (f : Form) (s : State) (live nand nor slots : ℕ)
    → row (nand_bad nand slots) (nor_bad nor) (not (within_bounds f s live slots)) 0 ≡ 0 → Standing s nand nor slots
standing_in f s live nand nor slots e =
    let n = nand_bad nand slots in
    let m = nor_bad nor in
    let bad = not (within_bounds f s live slots) in
    let e2 = Within.ground_rest 1 n (ground 2 m (ground 3 bad 0)) (λ z. omega arith) e in
    let e3 = Within.ground_rest 2 m (ground 3 bad 0) (λ z. omega arith) e2 in
    within f s live nand nor slots
    (Within.chips_fit_if nand nor slots (Within.ground_not 1 n (ground 2 m (ground 3 bad 0)) (λ z. omega arith) e)
    (Within.ground_not 2 m (ground 3 bad 0) (λ z. omega arith) e2))
    (not-false (within_bounds f s live slots) (Within.ground_not 3 bad 0 (λ z. omega arith) e3))

pub standing : (s : State) (nand nor slots : ℕ) → bounds_ground New s 0 nand nor slots ≡ 0 → Standing s nand nor slots
unfolding bounds_ground
standing s nand nor slots e = standing_in New s 0 nand nor slots e

-- what the plan goes by
pub sized : (nand nor : List ℕ) (s : State) (slots : ℕ) → Standing s (length nand) (length nor) slots → Sized nand nor slots (fields_of s)
sized nand nor s slots st =
    record {
      nand_size = st.chips.nand_size;
      nor_size = st.chips.nor_size;
      slots_some = omega (arith, st.chips.least);
      current_some = omega (arith, st.serials.first, st.serials.rising);
      rising = st.serials.rising;
      most = st.counts.lifts;
      buckets_most_lem = st.counts.few;
      loads_ok_lem = st.loads;
    }

-- the same where a call has judged them and found none
pub standing_judged : (s : State) (nand nor slots n : ℕ) → n ≡ bounds_ground New s 0 nand nor slots → n ≡ 0 → Standing s nand nor slots
standing_judged s nand nor slots n judged zero = standing s nand nor slots (sym judged ∙ zero)
