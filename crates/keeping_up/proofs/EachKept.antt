-- Each call on a history's world, with the counts of its retained lifts beside it: it answers as the plain call does, and the counts that it
-- leaves are those of the lifts retained then. So few lifts are retained that ground 3 never holds of their counts. Assumes nothing.
use mathlib.Core.Path.{◌≡◌, refl, sym, ap, ap₂, ◌∙◌}
use mathlib.Core.Bool.{Bool, true, false, cond, not}
use mathlib.Core.Option.{Option, some}
use mathlib.Core.List.{List, [], ◌∷◌}
use Prim.Native.Nat.{ℕ, ◌≤◌, ◌<◌}
use native.Mathlib.Decide.{ℕ_discrete}
use native.Mathlib.Omega.{arith}
use lib.Dec.{eqb, leb, ltb}
use lib.ListN.{length}
use borrow.Author.Tests.{eqb-true, leb-true, le-ltb}
use Rattle.lift.specs.Limits.{time_ok, load_ok, stored}
use Rattle.bounds.specs.Grounds.{sooner}
use Rattle.plate.specs.Total.{total}
use Rattle.plate.specs.Plate.{counts_of}
use Rattle.plate.proofs.Counts.{counts_total}
use Rattle.tree.specs.Plan.{Plan}
use Rattle.store.specs.World.{World}
use Rattle.store.specs.Calls.{Outcome, room_world, drop_outcome, append_outcome}
use Rattle.counts.specs.Counts.{counts_broken, one_more}
use Rattle.counts.proofs.CountsDown.{one_more_lem}
use Rattle.keeping.specs.Keeping.{Store, Counted, with_ground, is_lost, kept_or, keeping, counts_dropped, drop_kept}
use Rattle.keeping.proofs.Numbers.{with_later}
use Rattle.keeping.specs.Keeping.{with_lift, counts_shed, counts_appended, append_kept}
use Rattle.paper_log.specs.Log.{Lift, Log, open_serial, codes, retained, is_full, drop_log, put_log, append_log}
use Rattle.paper_log.specs.Calls as Paper
use Rattle.refinement.specs.Inner.Image.{History, image}
use Rattle.refinement.specs.Run.{Request, append, close, drop, search, call_of, plain, reply, world_after, Typed}
use Rattle.refinement.proofs.Good.{GoodLift, Good}
use Rattle.refinement.proofs.Lengths.{length_codes}
use Rattle.refinement.proofs.Wanted.{map_append}
use Rattle.refinement.proofs.Close.{close_history}
use Rattle.refinement.proofs.Drop.{drop_history}
use Rattle.refinement.proofs.Append.{room_history, shed_history, append_log_lem, plan_is, Roomy, roomy, drops_is}
use Rattle.refinement.proofs.Entry.{plan_in}
use Rattle.refinement.proofs.Steps as Steps
use Rattle.refinement.proofs.TallyHeld.{held_most}
use Rattle.keeping_up.specs.KeptRun.{kept_reply, kept_after}
use Rattle.keeping_up.proofs.RetainedLifts.{either_way, close_keeps, put_last}
use Rattle.keeping_up.proofs.Dropping.{counts_dropped_lem}

-- the counts of a log's retained lifts, and a store that has them beside its state
abbrev pub counts_held : Log → List ℕ
counts_held g = counts_of (codes (retained g))

abbrev pub beside : World → Log → Store
beside w g = record { world = w; counts = counts_held g }

pub held_total : (g : Log) → total (counts_held g) ≡ length (retained g)
held_total g = counts_total (codes (retained g)) ∙ length_codes (retained g)

-- ---- a plain call with counts beside it

-- a number that no ground of the counts comes before
plain_number : (counts next : List ℕ) (o : Option (List ℕ)) (n : ℕ) → counts_broken counts ≡ false → n ≤ 10 → (n ≡ 0 → o ≡ some next)
    → with_ground 3 (counts_broken counts) (with_ground 10 (is_lost o) n) ≡ n
unfolding sooner
plain_number counts next o n sum small f = rw sum (go (ℕ_discrete n 0))
  where
    go : Dec (n ≡ 0) → with_ground 10 (is_lost o) n ≡ n
    go (yes z) = rw (f z)
    go (no p) = with_later 10 n (is_lost o) p small

module _ (h : History) (g : Good h) where
  few_held : counts_broken (counts_held h.log) ≡ false
  few_held = le-ltb 1310720 (total (counts_held h.log)) (omega (arith, held_total h.log, held_most h g, g.most))

  keeping_is : (c : Paper.Call) (o : Outcome) (next : Option (List ℕ)) → Paper.number_of h.log c ≤ 10
      → o ≡ record { number = Paper.number_of h.log c; world = image (Steps.after h c) }
      → (Paper.number_of h.log c ≡ 0 → next ≡ some (counts_held (Paper.after h.log c)))
      → keeping (image h) (counts_held h.log) o next
      ≡ record { number = o.number; world = o.world; counts = counts_held (Paper.stepped h.log c) }
  unfolding keeping Paper.stepped
  keeping_is c o next small is f =
      rw (is, plain_number (counts_held h.log) (counts_held (Paper.after h.log c)) next n few_held small f) (go (eqb n 0) refl)
    where
      n : ℕ
      n = Paper.number_of h.log c

      go : (t : Bool) → eqb n 0 ≡ t → ◌≡◌ {A = Counted}
          (record {
            number = n;
            world = cond t (image (cond t (Steps.accepted h c) h)) (image h);
            counts = cond t (kept_or (counts_held h.log) next) (counts_held h.log);
          })
          (record { number = n; world = image (cond t (Steps.accepted h c) h); counts = counts_held (cond t (Paper.after h.log c) h.log) })
      go true e = rw (f (eqb-true n 0 e))
      go false e = refl

-- no ground of an append or of a drop comes after 10
up_to_10 : (n : ℕ) (t : Bool) (rest : ℕ) → n ≤ 10 → rest ≤ 10 → Paper.ground n t rest ≤ 10
up_to_10 n true rest a b = a
up_to_10 n false rest a b = b

-- ---- drop

drop_keeps : (h : History) → Good h → 0 < length h.log.closed
    → counts_dropped (image h) h.log.slots (counts_held h.log) ≡ some (counts_held (drop_log h.log))
drop_keeps h g q = go h.log.closed refl
  where
    go : (c : List (List Lift)) → h.log.closed ≡ c
        → counts_dropped (image h) h.log.slots (counts_held h.log) ≡ some (counts_held (drop_log h.log))
    go [] e = absurd (omega (arith, ap length e))
    go (ls ∷ rest) e = counts_dropped_lem h g ls rest e

kept_drop : (h : History) → Good h → (k : ℕ) → drop_kept (image h) k (counts_held h.log) ≡ record {
  number = (drop_outcome (image h) k).number;
  world = (drop_outcome (image h) k).world;
  counts = counts_held (Paper.stepped h.log (Paper.drop k));
}
unfolding drop_kept Paper.number_of Paper.after
kept_drop h g k =
    keeping_is h g (Paper.drop k) (drop_outcome (image h) k) (counts_dropped (image h) k (counts_held h.log))
    (up_to_10 1 (not (eqb k h.log.slots)) _ (omega arith) (up_to_10 9 (eqb (length h.log.closed) 0) 0 (omega arith) (omega arith)))
    (Steps.drop_step h g k) (λ e.
    let d = Steps.drop_some h g k e in
    ap (λ (s : ℕ). counts_dropped (image h) s (counts_held h.log)) d.0 ∙ drop_keeps h g d.1)

-- ---- append

shed_keeps : (r : History) → Good r → counts_shed (image r) r.log.slots (counts_held r.log) ≡ some (counts_held (shed_history r).log)
unfolding counts_shed
shed_keeps r g = rw (drops_is r g) (go (leb r.log.slots (length r.log.closed)) refl)
  where
    go : (t : Bool) → leb r.log.slots (length r.log.closed) ≡ t
        → cond t (counts_dropped (image r) r.log.slots (counts_held r.log)) (some (counts_held r.log))
        ≡ some (counts_held (cond t (drop_history r) r).log)
    go true e = drop_keeps r g (omega (arith, leb-true r.log.slots (length r.log.closed) e, g.least))
    go false e = refl

put_counts : (g : Log) (l : Lift) → one_more (counts_held g) (stored l.load) ≡ counts_held (put_log g l)
put_counts g l =
    one_more_lem (codes (retained g)) (stored l.load)
    ∙ ap counts_of (sym (ap codes (put_last g l) ∙ map_append (λ (x : Lift). stored x.load) (retained g) (l ∷ [])))

append_keeps : (h : History) (g : Good h) (l : Lift) → GoodLift l
    → counts_appended (image h) h.log.slots l.load (counts_held h.log) ≡ some (counts_held (append_log h.log l))
unfolding counts_appended
append_keeps h g l gl =
    ap (λ (p : Plan). with (room_world (image h) h.log.slots p) h.log.slots (counts_held h.log)) (plan_is h g l gl)
    ∙ ap (λ (w : World). with w h.log.slots (counts_held h.log)) ry.world
    ∙ ap₂ {C = Option (List ℕ)} (with (image r)) (sym ry.slots) (sym room)
    ∙ ap (with_lift (stored l.load)) (shed_keeps r ry.good)
    ∙ ap some (put_counts (shed_history r).log l ∙ ap counts_held (append_log_lem h l))
  where
    r : History
    r = room_history h l.load

    ry : Roomy h l (plan_in h.log.current l.load) r
    ry = roomy h g l gl

    with : World → ℕ → List ℕ → Option (List ℕ)
    with w slots counts = with_lift (stored l.load) (counts_shed w slots counts)

    room : counts_held r.log ≡ counts_held h.log
    room =
        either_way (λ (x : History). counts_held x.log) (is_full h.log.current l.load) (close_history h) h
        (ap (λ (ls : List Lift). counts_of (codes ls)) (close_keeps h.log))

kept_append : (h : History) → Good h → (k : ℕ) (l : Lift) → Typed (append k l.time l.load l.note)
    → append_kept (image h) k l.time l.load l.note (counts_held h.log) ≡ record {
      number = (append_outcome (image h) k l.time l.load l.note).number;
      world = (append_outcome (image h) k l.time l.load l.note).world;
      counts = counts_held (Paper.stepped h.log (Paper.append k l));
    }
unfolding append_kept Paper.number_of Paper.after
kept_append h g k l ok =
    keeping_is h g (Paper.append k l) (append_outcome (image h) k l.time l.load l.note)
    (counts_appended (image h) k l.load (counts_held h.log))
    (up_to_10 1 (not (eqb k h.log.slots)) _ (omega arith)
    (up_to_10 4 (not (time_ok l.time)) _ (omega arith)
    (up_to_10 5 (not (load_ok l.load)) _ (omega arith)
    (up_to_10 7 (ltb l.time h.log.next) _ (omega arith)
    (up_to_10 8 (leb 999999998 (open_serial h.log)) 0 (omega arith) (omega arith))))))
    (Steps.append_step h g k l ok.0 ok.1) (λ e.
    let t = Steps.append_some h g k l ok.0 ok.1 e in
    ap (λ (s : ℕ). counts_appended (image h) s l.load (counts_held h.log)) t.slots ∙ append_keeps h g l t.lift)

-- ---- any call

pub kept_reply_lem : (h : History) → Good h → (r : Request) → Typed r → kept_reply (beside (image h) h.log) r ≡ reply (image h) r
unfolding kept_reply reply
kept_reply_lem h g (append k time load note) ok =
    ap (λ (c : Counted). plain c.number) (kept_append h g k (record { time = time; load = load; note = note }) ok)
kept_reply_lem h g (close k) ok = refl
kept_reply_lem h g (drop k) ok = ap (λ (c : Counted). plain c.number) (kept_drop h g k)
kept_reply_lem h g (search k t1 t2 k1 k2 area) ok = refl

-- a call that keeps the retained lifts keeps their counts
beside_same : (w : World) (g : Log) (c : Paper.Call) → retained (Paper.after g c) ≡ retained g → beside w g ≡ beside w (Paper.stepped g c)
unfolding Paper.stepped
beside_same w g c e =
    ap {B = Store} (λ (ls : List Lift). record { world = w; counts = counts_of (codes ls) })
    (sym (either_way retained (eqb (Paper.number_of g c) 0) (Paper.after g c) g e))

abbrev store : Counted → Store
store c = record { world = c.world; counts = c.counts }

pub kept_after_lem : (h : History) → Good h → (r : Request) → Typed r
    → kept_after (beside (image h) h.log) r ≡ beside (world_after (image h) r) (Paper.stepped h.log (call_of r))
unfolding kept_after world_after Paper.after
kept_after_lem h g (append k time load note) ok = ap store (kept_append h g k (record { time = time; load = load; note = note }) ok)
kept_after_lem h g (close k) ok = beside_same (world_after (image h) (close k)) h.log (Paper.close k) (close_keeps h.log)
kept_after_lem h g (drop k) ok = ap store (kept_drop h g k)
kept_after_lem h g (search k t1 t2 k1 k2 area) ok = beside_same (image h) h.log (call_of (search k t1 t2 k1 k2 area)) refl
