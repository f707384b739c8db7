-- The grounds of a conversion as tested, and what is known where none of the first five holds. Assumes nothing.
use mathlib.Core.Path.{◌≡◌, refl, sym, subst, ◌∙◌}
use mathlib.Core.Bool.{Bool, true, false, cond, not, ◌&&◌, ◌||◌}
use mathlib.Core.List.{List, []}
use Prim.Native.Nat.{ℕ, ◌+◌, ◌-◌, ◌*◌, ◌≤◌, ◌<◌}
use native.Mathlib.Omega.{arith}
use lib.Dec.{eqb, leb}
use lib.ListN.{length}
use borrow.Author.Tests.{leb-true, le-ltb, eq-eqb, ne_eqb, not-false}
use Rattle.codec.proofs.Truth.{and_left, and_right, or_left, or_right}
use Rattle.form.specs.declared.Form.{Form}
use Rattle.form.specs.declared.Form.TheVariants.{Old, New}
use Rattle.header.specs.Header.{header_good, header_in}
use Rattle.header.proofs.HeaderFacts.{header_facts}
use Rattle.bounds.specs.Bounds.{serials_ok, counts_ok, times_ok, span_ok, loads_ok}
use Rattle.bounds.specs.Grounds.{ground, sooner, nand_bad, nor_bad, format_ground}
use Rattle.bounds.proofs.Within as Within
use Rattle.store.specs.declared.OldState.{OldState}
use Rattle.store.specs.declared.State.{State}
use Rattle.store.specs.Bounds.{heads_ok, within_bounds}
use Rattle.store.specs.World.{World, world, live_time}
use Rattle.store.specs.Calls.{Outcome, formatted}
use Rattle.store.proofs.Grounds.{Standing, standing_in}
use Rattle.store.specs.Inner.Pieces.{bounds_ground}
use Rattle.carry.specs.Carried.{other, header_of, nand_into, state_into, first_time, world_into}
use Rattle.retained.specs.Retained.{any_closed, is_form, is_damaged, retained_times, rises, any_late, has_late}
use Rattle.conversion.specs.Outcome.{cannot_go_back, carry_ground, carry_outcome, old_returned}
use Rattle.retained.specs.Inner.Loops.{CountsFit}
use Rattle.conversion.specs.Inner.Pieces.{serials_of, lengths_ground, store_of, early_grounds, back_grounds, NoGround}
use Rattle.retained.proofs.Seeking.{none_has}

-- ---- grounds 1 and 2 of both stores

-- the one that is tried first
both_rows : (w x y z : Bool) → sooner (ground 1 w (ground 2 x 0)) (ground 1 y (ground 2 z 0)) ≡ ground 1 (w || y) (ground 2 (x || z) 0)
unfolding sooner
both_rows true x true z = refl
both_rows true x false true = refl
both_rows true x false false = refl
both_rows false true true z = refl
both_rows false true false true = refl
both_rows false true false false = refl
both_rows false false true z = refl
both_rows false false false true = refl
both_rows false false false false = refl

pub both_lengths : (nand nor slots to_nand to_nor : ℕ)
    → sooner (format_ground nand nor slots) (format_ground to_nand to_nor slots) ≡ lengths_ground nand nor slots to_nand to_nor
unfolding format_ground lengths_ground
both_lengths nand nor slots to_nand to_nor = both_rows (nand_bad nand slots) (nor_bad nor) (nand_bad to_nand slots) (nor_bad to_nor)

-- the second store's lengths are right where none of them holds
pub lengths_fit : (nand nor slots to_nand to_nor : ℕ) → lengths_ground nand nor slots to_nand to_nor ≡ 0
    → Within.ChipsFit nand nor slots × Within.ChipsFit to_nand to_nor slots
unfolding lengths_ground
lengths_fit nand nor slots to_nand to_nor e =
    let a = Within.ground_not 1 (nand_bad nand slots || nand_bad to_nand slots) _ (λ z. omega arith) e in
    let b = Within.ground_not 2 (nor_bad nor || nor_bad to_nor) 0 (λ z. omega arith)
    (Within.ground_rest 1 (nand_bad nand slots || nand_bad to_nand slots) _ (λ z. omega arith) e) in (
      Within.chips_fit_if nand nor slots (or_left (nand_bad nand slots) _ a) (or_left (nor_bad nor) _ b),
      Within.chips_fit_if to_nand to_nor slots (or_right (nand_bad nand slots) _ a) (or_right (nor_bad nor) _ b),
    )

fit_chips : (nand nor slots : ℕ) → Within.ChipsFit nand nor slots → nand_bad nand slots ≡ false
fit_chips nand nor slots l =
    rw (le-ltb slots 2 l.least, le-ltb 4096 slots l.most, eq-eqb nand (slots * 16384) l.nand_size)

-- ---- the state

-- what the bounds say of a state of either form
pub stands : (f : Form) (s : State) (live nand slots : ℕ) → nand_bad nand slots ≡ false → within_bounds f s live slots ≡ true
    → Standing s nand 6144 slots
stands f s live nand slots a b = standing_in f s live nand 6144 slots (rw (a, b))

times_next : (f : Form) (current count next live start : ℕ) → times_ok f current count next live start ≡ true → next ≤ 1000000000000000
unfolding times_ok
times_next Old current count next live start t =
    leb-true next 1000000000000000
    (and_left _ _ (and_left (leb next 1000000000000000 && (leb live 1000000000000000 && leb start 1000000000000000)) _ t))
times_next New current count next live start t =
    let l = leb-true next 999999999999999
    (and_left _ _ (and_left (leb next 999999999999999 && leb start 1000000000000000) _ t)) in
    omega arith

pub next_most : (f : Form) (s : State) (live slots : ℕ) → within_bounds f s live slots ≡ true → s.next ≤ 1000000000000000
unfolding within_bounds
next_most f s live slots e =
    let a = serials_ok s.oldest s.current s.count slots in
    let b = counts_ok s.current s.count s.buckets in
    let c = times_ok f s.current s.count s.next live s.start in
    let d = span_ok s.count s.low s.high && (loads_ok s.loads && heads_ok s.heads slots) in
    times_next f s.current s.count s.next live s.start
    (and_left c d (and_right b (c && d) (and_right a (b && (c && d)) e)))

-- ---- grounds 1, 2, 3, 13 and 10

module _ (f : Form) (s : State) (live : ℕ) (nand : List ℕ) (nor slots to_nand to_nor n : ℕ)
    (lengths : n ≡ lengths_ground (length nand) nor slots to_nand to_nor) where
  abbrev bounded : Bool
  bounded = within_bounds (other f) s live slots

  abbrev other_form : Bool
  other_form = any_closed (is_form f) (store_of f s live nand []) slots

  abbrev damaged : Bool
  damaged = any_closed (is_damaged (other f) slots s.current) (store_of f s live nand []) slots

  abbrev all : ℕ
  all = early_grounds f s live nand nor slots to_nand to_nor

  pub by_lengths : (n ≡ 0 → ⊥) → n ≡ all
  unfolding early_grounds lengths_ground
  by_lengths h = go (nand_bad (length nand) slots || nand_bad to_nand slots) (nor_bad nor || nor_bad to_nor) lengths
    where
      go : (a b : Bool) → n ≡ ground 1 a (ground 2 b 0)
          → n ≡ ground 1 a (ground 2 b (ground 3 (not bounded) (ground 13 other_form (ground 10 damaged 0))))
      go true b e = e
      go false true e = e
      go false false e = absurd (h e)

  module _ (z : n ≡ 0) where
    past : all ≡ ground 3 (not bounded) (ground 13 other_form (ground 10 damaged 0))
    unfolding early_grounds lengths_ground
    past = go (nand_bad (length nand) slots || nand_bad to_nand slots) (nor_bad nor || nor_bad to_nor) lengths
      where
        go : (a b : Bool) → n ≡ ground 1 a (ground 2 b 0)
            → ground 1 a (ground 2 b (ground 3 (not bounded) (ground 13 other_form (ground 10 damaged 0))))
            ≡ ground 3 (not bounded) (ground 13 other_form (ground 10 damaged 0))
        go true b e = absurd (omega arith)
        go false true e = absurd (omega arith)
        go false false e = refl

    -- ground 3 alone can hold of the first store
    module _ (m : ℕ) (judged : m ≡ bounds_ground (other f) s live (length nand) nor slots) where
      state_left : m ≡ ground 3 (not bounded) 0
      unfolding bounds_ground
      state_left =
          let l = (lengths_fit (length nand) nor slots to_nand to_nor (sym lengths ∙ z)).0 in
          judged ∙ rw (fit_chips (length nand) nor slots l, eq-eqb nor 6144 l.nor_size)

      pub by_bounds : (m ≡ 0 → ⊥) → m ≡ all
      by_bounds h = state_left ∙ sym (past ∙ go bounded state_left)
        where
          go : (b : Bool) → m ≡ ground 3 (not b) 0 → ground 3 (not b) (ground 13 other_form (ground 10 damaged 0)) ≡ ground 3 (not b) 0
          go true e = absurd (h e)
          go false e = refl

      within : m ≡ 0 → bounded ≡ true
      within e = not-false bounded (Within.ground_not 3 (not bounded) 0 (λ q. omega arith) (sym state_left ∙ e))

      -- what a look at the headers asks
      pub within_ground : m ≡ 0 → (length nand ≡ slots * 16384) × (1 ≤ slots) × (1 ≤ s.oldest) × (s.oldest ≤ s.current)
      within_ground e =
          let l = (lengths_fit (length nand) nor slots to_nand to_nor (sym lengths ∙ z)).0 in
          let st = stands (other f) s live (length nand) slots (fit_chips (length nand) nor slots l) (within e) in
          (l.nand_size, omega (arith, l.least), st.serials.first, st.serials.rising)

      pub by_form : m ≡ 0 → (o : Bool) → o ≡ other_form → o ≡ true → 13 ≡ all
      by_form e o g u = sym (past ∙ rw (within e, ← g, u))

      pub by_damage : m ≡ 0 → (o d : Bool) → o ≡ other_form → o ≡ false → d ≡ damaged → d ≡ true → 10 ≡ all
      by_damage e o d g u k v = sym (past ∙ rw (within e, ← g, u, ← k, v))

      pub by_none : m ≡ 0 → (o d : Bool) → o ≡ other_form → o ≡ false → d ≡ damaged → d ≡ false → 0 ≡ all
      by_none e o d g u k v = sym (past ∙ rw (within e, ← g, u, ← k, v))

-- where none of them holds
pub record Free (f : Form) (s : State) (live : ℕ) (nand : List ℕ) (nor slots to_nand to_nor : ℕ) : Type 0 where
  pub first : Within.ChipsFit (length nand) nor slots
  pub second : Within.ChipsFit to_nand to_nor slots
  pub none : NoGround f s live nand slots

pub free : (f : Form) (s : State) (live : ℕ) (nand : List ℕ) (nor slots to_nand to_nor : ℕ)
    → early_grounds f s live nand nor slots to_nand to_nor ≡ 0 → Free f s live nand nor slots to_nand to_nor
unfolding early_grounds lengths_ground
free f s live nand nor slots to_nand to_nor e =
    let a = nand_bad (length nand) slots || nand_bad to_nand slots in
    let b = nor_bad nor || nor_bad to_nor in
    let c = not (within_bounds (other f) s live slots) in
    let o = any_closed (is_form f) (store_of f s live nand []) slots in
    let d = any_closed (is_damaged (other f) slots s.current) (store_of f s live nand []) slots in
    let e2 = Within.ground_rest 1 a (ground 2 b (ground 3 c (ground 13 o (ground 10 d 0)))) (λ z. omega arith) e in
    let e3 = Within.ground_rest 2 b (ground 3 c (ground 13 o (ground 10 d 0))) (λ z. omega arith) e2 in
    let e4 = Within.ground_rest 3 c (ground 13 o (ground 10 d 0)) (λ z. omega arith) e3 in
    let e5 = Within.ground_rest 13 o (ground 10 d 0) (λ z. omega arith) e4 in
    let na = Within.ground_not 1 a (ground 2 b (ground 3 c (ground 13 o (ground 10 d 0)))) (λ z. omega arith) e in
    let nb = Within.ground_not 2 b (ground 3 c (ground 13 o (ground 10 d 0))) (λ z. omega arith) e2 in
    let l = lengths_fit (length nand) nor slots to_nand to_nor (rw (na, nb)) in
    record {
      first = l.0;
      second = l.1;
      none = record {
        chips = or_left (nand_bad (length nand) slots) (nand_bad to_nand slots) na;
        bounds = not-false (within_bounds (other f) s live slots) (Within.ground_not 3 c (ground 13 o (ground 10 d 0)) (λ z. omega arith) e3);
        whole = Within.ground_not 10 d 0 (λ z. omega arith) e5;
      };
    }

-- then every retained closed segment counts at most 320 lifts
pub counts_fit : (f : Form) (s : State) (live : ℕ) (nand : List ℕ) (slots : ℕ) → NoGround f s live nand slots
    → CountsFit nand (serials_of s slots)
unfolding header_in
counts_fit f s live nand slots g n a b =
    let h = header_of nand slots n in
    let i : n - s.oldest < s.current - s.oldest = omega arith in
    let k : s.oldest + (n - s.oldest) ≡ n = omega arith in
    let d = none_has _ (s.current - s.oldest) s.oldest g.whole (n - s.oldest) i in
    let e : is_damaged (other f) slots s.current n h ≡ false =
    subst (λ (m : ℕ). is_damaged (other f) slots s.current m (header_of nand slots m) ≡ false) k d in
    let own = not-false _ e in
    let good = and_left (header_good (other f) h slots s.current) _ (and_right (is_form (other f) n h) _ own) in
    (header_facts (other f) h slots s.current good).counts.most

-- ---- ground 14

module _ (nand : List ℕ) (s : State) (slots : ℕ) (r : Bool) (judged : r ≡ rises (retained_times (world nand [] s) slots)) where
  abbrev first : ℕ
  first = first_time Old (world nand [] s) slots

  abbrev late : Bool
  late = any_late s.oldest first s.heads

  abbrev late_closed : Bool
  late_closed = any_closed (has_late s.oldest first) (world nand [] s) slots

  pub not_rising : not r ≡ true → true ≡ cannot_go_back (world nand [] s) slots
  not_rising t = rw (← judged, t)

  pub late_head : (l : Bool) → not r ≡ false → l ≡ late → l ≡ true → true ≡ cannot_go_back (world nand [] s) slots
  late_head l t e u = rw (← judged, t, ← e, u)

  pub late_node : (l d : Bool) → not r ≡ false → l ≡ late → l ≡ false → d ≡ late_closed → d ≡ cannot_go_back (world nand [] s) slots
  late_node l d t e u g = rw (← judged, t, ← e, u, ← g)

-- going back: the first five grounds, then 14
module _ (s : State) (nand : List ℕ) (nor slots to_nand to_nor n : ℕ) (judged : n ≡ early_grounds Old s 0 nand nor slots to_nand to_nor) where
  abbrev stays : Bool
  stays = cannot_go_back (world nand [] s) slots

  rows : (a b c d e : Bool) → n ≡ ground 1 a (ground 2 b (ground 3 c (ground 13 d (ground 10 e 0))))
      → ground 1 a (ground 2 b (ground 3 c (ground 13 d (ground 10 e (ground 14 stays 0))))) ≡ cond (eqb n 0) (ground 14 stays 0) n
  rows true b c d e q = rw q
  rows false true c d e q = rw q
  rows false false true d e q = rw q
  rows false false false true e q = rw q
  rows false false false false true q = rw q
  rows false false false false false q = rw q

  both : back_grounds s nand nor slots to_nand to_nor ≡ cond (eqb n 0) (ground 14 stays 0) n
  unfolding back_grounds early_grounds
  both =
      rows (nand_bad (length nand) slots || nand_bad to_nand slots) (nor_bad nor || nor_bad to_nor) (not (within_bounds New s 0 slots))
      (any_closed (is_form Old) (world nand [] s) slots) (any_closed (is_damaged New slots s.current) (world nand [] s) slots) judged

  pub back_first : (n ≡ 0 → ⊥) → n ≡ back_grounds s nand nor slots to_nand to_nor
  back_first h = sym (both ∙ rw (ne_eqb n 0 h))

  pub back_last : n ≡ 0 → (b : Bool) → b ≡ stays → ground 14 b 0 ≡ back_grounds s nand nor slots to_nand to_nor
  back_last z b e = sym (both ∙ rw (z, ← e))

-- the grounds of each call
pub there_ground : (s : State) (live : ℕ) (nand nor : List ℕ) (slots to_nand to_nor : ℕ)
    → early_grounds New s live nand (length nor) slots to_nand to_nor ≡ carry_ground New (store_of New s live nand nor) slots to_nand to_nor
unfolding early_grounds carry_ground
there_ground s live nand nor slots to_nand to_nor = refl

pub back_ground_lem : (s : State) (nand nor : List ℕ) (slots to_nand to_nor : ℕ)
    → back_grounds s nand (length nor) slots to_nand to_nor ≡ carry_ground Old (world nand nor s) slots to_nand to_nor
unfolding back_grounds carry_ground first_time
back_ground_lem s nand nor slots to_nand to_nor = refl

-- the first five hold for neither call that is accepted
pub first_free : (s : State) (nand : List ℕ) (nor slots to_nand to_nor : ℕ) → back_grounds s nand nor slots to_nand to_nor ≡ 0
    → early_grounds Old s 0 nand nor slots to_nand to_nor ≡ 0
unfolding back_grounds early_grounds
first_free s nand nor slots to_nand to_nor e =
    go (nand_bad (length nand) slots || nand_bad to_nand slots) (nor_bad nor || nor_bad to_nor) (not (within_bounds New s 0 slots))
    (any_closed (is_form Old) (world nand [] s) slots) (any_closed (is_damaged New slots s.current) (world nand [] s) slots)
    (cannot_go_back (world nand [] s) slots) e
  where
    go : (a b c d x y : Bool) → ground 1 a (ground 2 b (ground 3 c (ground 13 d (ground 10 x (ground 14 y 0))))) ≡ 0
        → ground 1 a (ground 2 b (ground 3 c (ground 13 d (ground 10 x 0)))) ≡ 0
    go true b c d x y e = e
    go false true c d x y e = e
    go false false true d x y e = e
    go false false false true x y e = e
    go false false false false true y e = e
    go false false false false false y e = refl

-- ---- the outcome

module _ (f : Form) (w : World) (slots : ℕ) (nand nor : List ℕ) (n : ℕ)
    (judged : n ≡ carry_ground f w slots (length nand) (length nor)) where
  pub refused : (s : State) → (n ≡ 0 → ⊥) → s ≡ formatted
      → ◌≡◌ {A = Outcome} (record { number = n; world = record { form = f; nand = nand; nor = nor; state = s; live = 0 } })
      (carry_outcome f w slots nand nor)
  unfolding carry_outcome
  refused s h e = rw (← judged, ne_eqb n 0 h, e)

  pub carried : (nand' nor' : List ℕ) (s : State) (live : ℕ) → n ≡ 0 → nand' ≡ nand_into f w slots → nor' ≡ w.nor → s ≡ state_into f w.state
      → live ≡ live_time f (first_time f w slots)
      → ◌≡◌ {A = Outcome} (record { number = 0; world = record { form = f; nand = nand'; nor = nor'; state = s; live = live } })
      (carry_outcome f w slots nand nor)
  unfolding carry_outcome world_into
  carried nand' nor' s live z a b c d = rw (← judged, z, a, b, c, d)

-- an answer with a state of form 0
pub old_made : (number n : ℕ) (nand nor : List ℕ) (o : OldState) (s : State) (live : ℕ) → number ≡ n → o.state ≡ s → o.live ≡ live
    → old_returned number nand nor o ≡ record { number = n; world = record { form = Old; nand = nand; nor = nor; state = s; live = live } }
old_made number n nand nor o s live a b c = rw (a, b, c)
