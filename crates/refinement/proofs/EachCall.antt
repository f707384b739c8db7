-- Demand 3 on the chips: in every list of calls, what each call changed of NAND and NOR. Assumes nothing.
use mathlib.Core.Path.{◌≡◌, refl, sym, subst, ◌∙◌}
use mathlib.Core.Bool.{Bool, true, false, cond}
use mathlib.Core.List.{List, [], ◌∷◌}
use mathlib.Core.Logic.{◌⊎◌, inl, inr}
use Prim.Native.Nat.{ℕ, ◌+◌, ◌≤◌, ◌<◌}
use native.Mathlib.Omega.{arith}
use lib.Dec.{eqb}
use lib.ListN.{length-append}
use borrow.Author.Tests.{eqb-true}
use Rattle.flash.specs.Clears.{OnlyClears}
use Rattle.flash.proofs.Clearing.{clears_none}
use Rattle.store.specs.World.{World}
use Rattle.paper_log.specs.Log.{Lift, Log, open_serial, close_log, drop_log, put_log, is_full}
use Rattle.paper_log.specs.Calls as Paper
use Rattle.refinement.specs.Inner.Segments as S
use Rattle.refinement.specs.Inner.Image.{History, image}
use Rattle.refinement.specs.Rules.{Kept, AllKept}
use Rattle.refinement.specs.Run.{Request, append, close, drop, search, call_of, Typed, AllTyped}
use Rattle.refinement.proofs.Good.{GoodLift, Good}
use Rattle.refinement.proofs.Close.{close_history}
use Rattle.refinement.proofs.Drop.{drop_history}
use Rattle.refinement.proofs.Append.{room_history, append_history, roomy, shed}
use Rattle.refinement.proofs.Steps.{after, after_log, close_some, drop_some, append_some}
use Rattle.refinement.proofs.PagesKept.{kept_same, close_kept, some_kept, append_kept_lem}
use Rattle.refinement.proofs.NorClears.{append_clears}
use Rattle.refinement.proofs.Reached.{world_is, good_after}

abbrev KeptFrom : History → History → Type 0
KeptFrom h k = Kept (image h) (image k) h.log k.log

kept_self : (h : History) → KeptFrom h h
kept_self h = record { pages = kept_same h.log.slots (image h).nand (image h).nand _ refl; nor = inl (clears_none (image h).nor) }

-- a refused call changes nothing
kept_by : (m : ℕ) (h a : History) → (m ≡ 0 → KeptFrom h a) → KeptFrom h (cond (eqb m 0) a h)
kept_by m h a f = go (eqb m 0) refl
  where
    go : (t : Bool) → eqb m 0 ≡ t → KeptFrom h (cond t a h)
    go true q = f (eqb-true m 0 q)
    go false q = kept_self h

close_moves : (h : History) → open_serial (close_history h).log ≡ open_serial h.log + 1
unfolding close_log
close_moves h = omega (arith, length-append h.log.closed (h.log.current ∷ []))

drop_nor : (h : History) → OnlyClears (image h).nor (image (drop_history h)).nor
unfolding image drop_log
drop_nor h = clears_none (S.nor_of h.log.current)

-- an append moves on exactly where it closes first
append_nor : (h : History) (g : Good h) (l : Lift) (gl : GoodLift l) → h.log.next ≤ l.time → open_serial h.log < 999999998
    → OnlyClears (image h).nor (image (append_history h l)).nor ⊎ (open_serial (append_history h l).log ≡ open_serial h.log + 1)
unfolding put_log
append_nor h g l gl later early = go (is_full h.log.current l.load) refl
  where
    r : History
    r = room_history h l.load

    moved : (t : Bool) → t ≡ true → open_serial (cond t (close_history h) h).log ≡ open_serial h.log + 1
    moved true e = close_moves h
    moved false e = let z : ◌≡◌ {A = ℕ} 0 1 = cc in absurd (omega arith)

    go : (t : Bool) → is_full h.log.current l.load ≡ t
        → OnlyClears (image h).nor (image (append_history h l)).nor ⊎ (open_serial (append_history h l).log ≡ open_serial h.log + 1)
    go false e = inl (append_clears h g l gl later early e)
    go true e = inr ((shed r (roomy h g l gl).good).serial ∙ moved (is_full h.log.current l.load) e)

pub call_kept : (h : History) → Good h → (r : Request) → Typed r → KeptFrom h (after h (call_of r))
unfolding image
call_kept h g (append k time load note) ok =
    let l : Lift = record { time = time; load = load; note = note } in
    kept_by (Paper.number_of h.log (Paper.append k l)) h (append_history h l)
    (λ e. let t = append_some h g k l ok.0 ok.1 e in
    record { pages = append_kept_lem h g l t.lift t.later t.early; nor = append_nor h g l t.lift t.later t.early })
call_kept h g (close k) ok =
    kept_by (Paper.number_of h.log (Paper.close k)) h (close_history h)
    (λ e. record { pages = close_kept h g (close_some h g k e).1 _; nor = inr (close_moves h) })
call_kept h g (drop k) ok =
    kept_by (Paper.number_of h.log (Paper.drop k)) h (drop_history h)
    (λ e. record {
      pages = some_kept h.log.form h.log.slots h.log.oldest h.log.closed h.log.current h.log.next h.gone g (drop_some h g k e).1;
      nor = inl (drop_nor h);
    })
call_kept h g (search k t1 t2 k1 k2 area) ok =
    kept_by (Paper.number_of h.log (call_of (search k t1 t2 k1 k2 area))) h h (λ e. kept_self h)

pub all_kept : (rs : List Request) (h : History) → Good h → AllTyped rs → AllKept (image h) h.log rs
all_kept [] h g ok = tt
all_kept (r ∷ rs) h g ok =
    let k : History = after h (call_of r) in
    let w = world_is h g r ok.0 in
    let e = after_log h (call_of r) in
    subst (λ (x : World). Kept (image h) x h.log (Paper.stepped h.log (call_of r)) × AllKept x (Paper.stepped h.log (call_of r)) rs) (sym w)
    (subst (λ (x : Log). Kept (image h) (image k) h.log x × AllKept (image k) x rs) e
    (call_kept h g r ok.0, all_kept rs k (good_after h g r ok.0) ok.1))
