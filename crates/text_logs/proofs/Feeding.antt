-- The paper log fed with lifts by appends alone, from serial 1 on: either no serial has gone and it holds all that came, or the open serial is past
-- S and it holds fewer. By induction over the lifts; a serial that goes had lifts. Assumes nothing.
use mathlib.Core.Path.{◌≡◌, refl, sym, ap, subst, ◌∙◌}
use mathlib.Core.Bool.{Bool, true, false, cond}
use mathlib.Core.List.{List, [], ◌∷◌, ◌++◌}
use Prim.Native.Nat.{ℕ, suc, ◌+◌, ◌≤◌, ◌<◌}
use native.Mathlib.Omega.{arith}
use lib.Dec.{leb}
use lib.IntN.{ℤ}
use lib.ListN.{length, length-append}
use borrow.Author.Tests.{leb-true, leb-false}
use Rattle.form.specs.declared.Form.{Form}
use Rattle.form.specs.Forms.{step}
use Rattle.paper_log.specs.Log.{Lift, Log, open_serial, is_full, joined, retained, begun, close_log, drop_log, room_log, shed_log, put_log, append_log}
use Rattle.refinement.specs.Inner.Image.{History}
use Rattle.refinement.proofs.Good as G
use Rattle.refinement.proofs.Good.{GoodLift, Segments, Good}
use Rattle.refinement.proofs.Close.{close_history}
use Rattle.refinement.proofs.Append.{room_history, roomy}
use Rattle.keeping_up.proofs.RetainedLifts.{close_keeps, drop_takes, put_last}

-- what the log holds of the lifts that came
pub data Held (x : Log) (came : List Lift) : Type 0 where
  whole : x.oldest ≡ 1 → retained x ≡ came → open_serial x ≤ x.slots → Held x came
  fewer : x.slots < open_serial x → length (retained x) < length came → Held x came

-- the last one that came is the last of these
abbrev pub EndsWith : List Lift → List Lift → Type 0
EndsWith ls came = (earlier : List Lift) (l : Lift) → came ≡ earlier ++ (l ∷ []) → (before : List Lift) × (ls ≡ before ++ (l ∷ []))

pub held_begun : (v : Form) (slots : ℕ) → 2 ≤ slots → Held (begun v slots) []
unfolding begun joined
held_begun v slots least = whole refl refl (omega arith)

pub ends_none : (ls : List Lift) → EndsWith ls []
ends_none ls earlier l e = absurd (let z = ap length e in omega (arith, length-append earlier (l ∷ [])))

last_or : Lift → List Lift → Lift
last_or d [] = d
last_or d (l ∷ ls) = last_or l ls

last_is : (d : Lift) (ls : List Lift) (l : Lift) → last_or d (ls ++ (l ∷ [])) ≡ l
unfolding last_or
last_is d [] l = refl
last_is d (a ∷ ls) l = last_is a ls l

pub ends_put : (ls came : List Lift) (l : Lift) → EndsWith (ls ++ (l ∷ [])) (came ++ (l ∷ []))
ends_put ls came l earlier m e =
    (ls, ap (λ (x : Lift). ls ++ (x ∷ [])) (sym (last_is l came l) ∙ ap (last_or l) e ∙ last_is l earlier m))

-- ---- room for a lift

-- the log r, with room, has the lifts of x and moved on by at most a serial
record Room (x r : Log) : Type 0 where
  slots : r.slots ≡ x.slots
  form : r.form ≡ x.form
  oldest : r.oldest ≡ x.oldest
  lifts : retained r ≡ retained x
  from : open_serial x ≤ open_serial r
  to : open_serial r ≤ open_serial x + 1

room_is : (x : Log) (load : ℤ) → Room x (room_log x load)
unfolding room_log close_log
room_is x load = go (is_full x.current load)
  where
    go : (t : Bool) → Room x (cond t (close_log x) x)
    go true =
        let n = length-append x.closed (x.current ∷ []) in
        record { slots = refl; form = refl; oldest = refl; lifts = close_keeps x; from = omega arith; to = omega arith }
    go false = record { slots = refl; form = refl; oldest = refl; lifts = refl; from = omega arith; to = omega arith }

-- ---- the serial that goes

-- every closed serial has a lift
first_some : {s n m : ℕ} {closed : List (List Lift)} → Segments s n closed m → (ls : List Lift) (rest : List (List Lift)) → closed ≡ ls ∷ rest
    → 0 < length ls
first_some G.none ls rest e = absurd (let z = ap length e in omega arith)
first_some (G.more {l = l} {ls = more} t ts) ls rest e =
    let z : suc (length more) ≡ length ls = ap first_long e in omega arith
  where
    first_long : List (List Lift) → ℕ
    first_long [] = 0
    first_long (x ∷ xs) = length x

-- the log s, after the oldest serial of r went or not: where it did, S were closed, and its lifts are gone
data Going (r s : Log) : Type 0 where
  stays : length r.closed < r.slots → s ≡ r → Going r s
  goes : r.slots ≤ length r.closed → length (retained s) < length (retained r) → Going r s

record Shed (r s : Log) : Type 0 where
  slots : s.slots ≡ r.slots
  form : s.form ≡ r.form
  serial : open_serial s ≡ open_serial r
  kept : Going r s

shed_is : (r : History) → Good r → Shed r.log (shed_log r.log)
unfolding shed_log drop_log
shed_is r g = go (leb r.log.slots (length r.log.closed)) refl
  where
    went : r.log.slots ≤ length r.log.closed → (c : List (List Lift)) → r.log.closed ≡ c → Shed r.log (drop_log r.log)
    went h [] e = absurd (omega (arith, g.least, ap length e))
    went h (ls ∷ rest) e =
        let n = ap length (drop_takes r.log ls rest e) ∙ length-append ls (retained (drop_log r.log)) in
        record {
          slots = refl;
          form = refl;
          serial = rw e (omega arith);
          kept = goes h (omega (arith, first_some g.closed ls rest e));
        }

    go : (t : Bool) → leb r.log.slots (length r.log.closed) ≡ t → Shed r.log (cond t (drop_log r.log) r.log)
    go true e = went (leb-true _ _ e) r.log.closed refl
    go false e = record { slots = refl; form = refl; serial = refl; kept = stays (leb-false _ _ e) refl }

-- ---- an append

-- the log y, after the append of l to x
pub record Appended (x : Log) (l : Lift) (y : Log) : Type 0 where
  pub slots : y.slots ≡ x.slots
  pub form : y.form ≡ x.form
  pub next : y.next ≡ l.time + step x.form
  pub serial : open_serial y ≤ open_serial x + 1
  pub held : (came : List Lift) → Held x came → Held y (came ++ (l ∷ []))
  pub ends : (came : List Lift) → EndsWith y.current (came ++ (l ∷ []))

module _ (h : History) (g : Good h) (l : Lift) (gl : GoodLift l) where
  abbrev x : Log
  x = h.log

  abbrev r : Log
  r = room_log x l.load

  abbrev s : Log
  s = shed_log r

  room : Room x r
  room = room_is x l.load

  room_log_lem : (room_history h l.load).log ≡ r
  unfolding room_log
  room_log_lem = go (is_full h.log.current l.load)
    where
      go : (t : Bool) → (cond t (close_history h) h).log ≡ cond t (close_log h.log) h.log
      go true = refl
      go false = refl

  shed : Shed r s
  shed = subst (λ (y : Log). Shed y (shed_log y)) room_log_lem (shed_is (room_history h l.load) (roomy h g l gl).good)

  more : length (retained (put_log s l)) ≡ length (retained s) + 1
  more = ap length (put_last s l) ∙ length-append (retained s) (l ∷ [])

  put_held : (came : List Lift) → Held x came → Held (put_log s l) (came ++ (l ∷ []))
  unfolding put_log
  put_held came (whole one all few) = go shed.kept
    where
      go : Going r s → Held (put_log s l) (came ++ (l ∷ []))
      go (stays few-closed same) =
          whole (ap (λ (y : Log). y.oldest) same ∙ room.oldest ∙ one)
          (put_last s l ∙ ap (λ (ls : List Lift). ls ++ (l ∷ [])) (ap retained same ∙ room.lifts ∙ all))
          (omega (arith, few-closed, shed.serial, shed.slots, room.oldest, one))
      go (goes many less) =
          fewer (omega (arith, many, shed.serial, shed.slots, room.oldest, one))
          (omega (arith, more, less, ap length room.lifts, ap length all, length-append came (l ∷ [])))
  put_held came (fewer past lost) =
      fewer (omega (arith, past, shed.serial, shed.slots, room.slots, room.from))
      (omega (arith, more, lost, fewer_held shed.kept, ap length room.lifts, length-append came (l ∷ [])))
    where
      fewer_held : Going r s → length (retained s) ≤ length (retained r)
      fewer_held (stays few-closed same) = let e = ap (λ (y : Log). length (retained y)) same in omega arith
      fewer_held (goes many less) = omega arith

  pub append_is : Appended h.log l (append_log h.log l)
  unfolding append_log put_log
  append_is = record {
    slots = shed.slots ∙ room.slots;
    form = shed.form ∙ room.form;
    next = ap (λ v. l.time + step v) (shed.form ∙ room.form);
    serial = omega (arith, shed.serial, room.to);
    held = put_held;
    ends = λ came. ends_put s.current came l;
  }
