-- Each append, close and drop on a history's world: the paper log's number, and the world of the history after it. Assumes nothing.
use mathlib.Core.Path.{◌≡◌, refl, ap, ◌∙◌}
use mathlib.Core.Bool.{Bool, true, false, cond, not}
use mathlib.Core.List.{List, [], ◌∷◌}
use Prim.Native.Nat.{ℕ, suc, ◌≤◌, ◌<◌}
use native.Mathlib.Omega.{arith}
use lib.Dec.{eqb, leb, ltb}
use lib.ListN.{length, get_or}
use borrow.Author.Tests.{eqb-true, eqb-false, ltb-false, leb-false, leb-true}
use Rattle.form.specs.declared.Form.{Form}
use Rattle.lift.specs.Limits.{time_ok, load_ok}
use Rattle.store.specs.World.{World, close_world, drop_world}
use Rattle.store.specs.Calls.{Outcome, outcome, close_ground, close_outcome, drop_ground, drop_outcome, append_ground, append_world, append_outcome}
use Rattle.paper_log.specs.Log.{Lift, open_serial}
use Rattle.paper_log.specs.Calls as Paper
use Rattle.refinement.specs.Inner.Image.{History, image}
use Rattle.refinement.proofs.Good.{GoodLift, Good}
use Rattle.refinement.proofs.Close.{close_history, good_close, close_world_lem}
use Rattle.refinement.proofs.Drop.{history, drop_history, good_drop_some, drop_world_some}
use Rattle.refinement.proofs.Append.{append_history, append_log_lem, good_append, append_world_lem}
use Rattle.refinement.proofs.Grounds.{close_number, drop_number, append_number}

-- the history after a call that is accepted, and after any call
abbrev pub accepted : History → Paper.Call → History
accepted h (Paper.append k l) = append_history h l
accepted h (Paper.close k) = close_history h
accepted h (Paper.drop k) = drop_history h
accepted h (Paper.search k t1 t2 k1 k2 rows) = h

abbrev pub after : History → Paper.Call → History
after h c = cond (eqb (Paper.number_of h.log c) 0) (accepted h c) h

-- its log is the paper log's
pub after_log : (h : History) (c : Paper.Call) → (after h c).log ≡ Paper.stepped h.log c
unfolding Paper.stepped Paper.after
after_log h c = go (eqb (Paper.number_of h.log c) 0) c
  where
    go : (t : Bool) (c : Paper.Call) → (cond t (accepted h c) h).log ≡ cond t (Paper.after h.log c) h.log
    go false c = refl
    go true (Paper.append k l) = append_log_lem h l
    go true (Paper.close k) = refl
    go true (Paper.drop k) = refl
    go true (Paper.search k t1 t2 k1 k2 rows) = refl

-- the tests that an accepted call has passed
pub first_zero : (n : ℕ) (t : Bool) (rest : ℕ) → Paper.ground (suc n) t rest ≡ 0 → (t ≡ false) × (rest ≡ 0)
first_zero n true rest e = absurd (omega arith)
first_zero n false rest e = (refl, e)

-- an outcome by its number
by_number : (n m : ℕ) (h a : History) (w : World) → n ≡ m → (m ≡ 0 → w ≡ image a)
    → outcome n (image h) w ≡ record { number = m; world = image (cond (eqb m 0) a h) }
by_number n m h a w e f = rw e (go (eqb m 0) refl)
  where
    go : (t : Bool) → eqb m 0 ≡ t → ◌≡◌ {A = Outcome} (record { number = m; world = cond t w (image h) }) (record { number = m; world = image (cond t a h) })
    go true q = rw (f (eqb-true m 0 q))
    go false q = refl

pub passed : (b : Bool) → not b ≡ false → b ≡ true
passed true e = refl
passed false e = cc

-- the history after a call is good where the accepted one is
good_by : (m : ℕ) (h a : History) → Good h → (m ≡ 0 → Good a) → Good (cond (eqb m 0) a h)
good_by m h a g f = go (eqb m 0) refl
  where
    go : (t : Bool) → eqb m 0 ≡ t → Good (cond t a h)
    go true q = f (eqb-true m 0 q)
    go false q = g

-- ---- close

module _ (h : History) (g : Good h) (k : ℕ) where
  pub close_some : Paper.number_of h.log (Paper.close k) ≡ 0 → (k ≡ h.log.slots) × (0 < length h.log.current)
  unfolding Paper.number_of
  close_some e =
      let a = first_zero 0 (not (eqb k h.log.slots)) _ e in
      let b = first_zero 8 (eqb (length h.log.current) 0) 0 a.1 in
      let c = eqb-false (length h.log.current) 0 b.0 in
      (eqb-true k h.log.slots (passed _ a.0), omega arith)

  pub close_step : close_outcome (image h) k ≡ record { number = Paper.number_of h.log (Paper.close k); world = image (after h (Paper.close k)) }
  unfolding close_outcome
  close_step =
      by_number (close_ground (image h) k) (Paper.number_of h.log (Paper.close k)) h (close_history h) (close_world (image h) k) (close_number h g k)
      (λ e. let c = close_some e in ap (close_world (image h)) c.0 ∙ close_world_lem h g c.1)

  pub good_after_close : Good (after h (Paper.close k))
  good_after_close = good_by (Paper.number_of h.log (Paper.close k)) h (close_history h) g (λ e. good_close h g (close_some e).1)

-- ---- drop

module _ (h : History) (g : Good h) (k : ℕ) where
  pub drop_some : Paper.number_of h.log (Paper.drop k) ≡ 0 → (k ≡ h.log.slots) × (0 < length h.log.closed)
  unfolding Paper.number_of
  drop_some e =
      let a = first_zero 0 (not (eqb k h.log.slots)) _ e in
      let b = first_zero 8 (eqb (length h.log.closed) 0) 0 a.1 in
      let c = eqb-false (length h.log.closed) 0 b.0 in
      (eqb-true k h.log.slots (passed _ a.0), omega arith)

  dropped : 0 < length h.log.closed → (drop_world (image h) h.log.slots ≡ image (drop_history h)) × Good (drop_history h)
  dropped q = go h.log.form h.log.slots h.log.oldest h.log.closed h.log.current h.log.next h.gone g q
    where
      go : (v : Form) (slots oldest : ℕ) (closed : List (List Lift)) (current : List Lift) (next : ℕ) (gone : List ℕ) → Good (history v slots oldest closed current next gone)
          → 0 < length closed
          → (drop_world (image (history v slots oldest closed current next gone)) slots ≡ image (drop_history (history v slots oldest closed current next gone)))
          × Good (drop_history (history v slots oldest closed current next gone))
      go v slots oldest [] current next gone g q = absurd (omega arith)
      go v slots oldest (ms ∷ rest) current next gone g q =
          (drop_world_some v slots oldest ms rest current next gone g, good_drop_some v slots oldest ms rest current next gone g)

  pub drop_step : drop_outcome (image h) k ≡ record { number = Paper.number_of h.log (Paper.drop k); world = image (after h (Paper.drop k)) }
  unfolding drop_outcome
  drop_step =
      by_number (drop_ground (image h) k) (Paper.number_of h.log (Paper.drop k)) h (drop_history h) (drop_world (image h) k) (drop_number h g k)
      (λ e. let c = drop_some e in ap (drop_world (image h)) c.0 ∙ (dropped c.1).0)

  pub good_after_drop : Good (after h (Paper.drop k))
  good_after_drop = good_by (Paper.number_of h.log (Paper.drop k)) h (drop_history h) g (λ e. (dropped (drop_some e).1).1)

-- ---- append

module _ (h : History) (g : Good h) (k : ℕ) (l : Lift) (note : length l.note ≡ 20) (bytes : (i : ℕ) → get_or l.note i 0 < 256) where
  lift_of : load_ok l.load ≡ true → time_ok l.time ≡ true → GoodLift l
  lift_of a b = record { time = leb-true _ _ b; load = a; note = note; bytes = bytes }

  -- what an accepted append has passed
  pub record Taken : Type 0 where
    pub slots : k ≡ h.log.slots
    pub lift : GoodLift l
    pub later : h.log.next ≤ l.time
    pub early : open_serial h.log < 999999998

  pub append_some : Paper.number_of h.log (Paper.append k l) ≡ 0 → Taken
  unfolding Paper.number_of
  append_some e =
      let a = first_zero 0 (not (eqb k h.log.slots)) _ e in
      let b = first_zero 3 (not (time_ok l.time)) _ a.1 in
      let c = first_zero 4 (not (load_ok l.load)) _ b.1 in
      let d = first_zero 6 (ltb l.time h.log.next) _ c.1 in
      let f = first_zero 7 (leb 999999998 (open_serial h.log)) 0 d.1 in
      record {
        slots = eqb-true k h.log.slots (passed _ a.0);
        lift = lift_of (passed _ c.0) (passed _ b.0);
        later = ltb-false l.time h.log.next d.0;
        early = leb-false 999999998 (open_serial h.log) f.0;
      }

  pub append_step : append_outcome (image h) k l.time l.load l.note
      ≡ record { number = Paper.number_of h.log (Paper.append k l); world = image (after h (Paper.append k l)) }
  unfolding append_outcome
  append_step =
      by_number (append_ground (image h) k l.time l.load) (Paper.number_of h.log (Paper.append k l)) h (append_history h l)
      (append_world (image h) k l.time l.load l.note) (append_number h g k l lift_of) (λ e.
      let t = append_some e in
      ap (λ (s : ℕ). append_world (image h) s l.time l.load l.note) t.slots ∙ append_world_lem h g l t.lift t.later t.early)

  pub good_after_append : Good (after h (Paper.append k l))
  good_after_append =
      good_by (Paper.number_of h.log (Paper.append k l)) h (append_history h l) g (λ e. let t = append_some e in good_append h g l t.lift t.later t.early)
