-- The world after a list of calls is that of a good history, and its log is the paper log's. Assumes nothing.
use mathlib.Core.Path.{◌≡◌, refl, sym, ap, ◌∙◌}
use mathlib.Core.Bool.{Bool, true, false, cond}
use mathlib.Core.List.{List, [], ◌∷◌, map}
use Prim.Native.Nat.{◌/◌}
use lib.Dec.{eqb}
use lib.ListN.{length}
use Rattle.store.specs.World.{World}
use Rattle.store.specs.Calls.{Outcome}
use Rattle.paper_log.specs.Log.{Log}
use Rattle.paper_log.specs.Calls as Paper
use Rattle.refinement.specs.Inner.Image.{History, image}
use Rattle.refinement.specs.Run.{Request, append, close, drop, search, call_of, world_after, run_after, Typed, AllTyped}
use Rattle.refinement.proofs.Good.{Good}
use Rattle.refinement.proofs.Steps as Steps

-- ---- one call

pub world_is : (h : History) → Good h → (r : Request) → Typed r → world_after (image h) r ≡ image (Steps.after h (call_of r))
unfolding world_after
world_is h g (append k time load note) ok = ap (λ (o : Outcome). o.world) (Steps.append_step h g k (record { time = time; load = load; note = note }) ok.0 ok.1)
world_is h g (close k) ok = ap (λ (o : Outcome). o.world) (Steps.close_step h g k)
world_is h g (drop k) ok = ap (λ (o : Outcome). o.world) (Steps.drop_step h g k)
world_is h g (search k t1 t2 k1 k2 area) ok = sym (same (eqb (Paper.number_of h.log (Paper.search k t1 t2 k1 k2 (length area / 32))) 0))
  where
    same : (t : Bool) → image (cond t h h) ≡ image h
    same true = refl
    same false = refl

pub good_after : (h : History) → Good h → (r : Request) → Typed r → Good (Steps.after h (call_of r))
good_after h g (append k time load note) ok = Steps.good_after_append h g k (record { time = time; load = load; note = note }) ok.0 ok.1
good_after h g (close k) ok = Steps.good_after_close h g k
good_after h g (drop k) ok = Steps.good_after_drop h g k
good_after h g (search k t1 t2 k1 k2 area) ok = go (eqb (Paper.number_of h.log (Paper.search k t1 t2 k1 k2 (length area / 32))) 0)
  where
    go : (t : Bool) → Good (cond t h h)
    go true = g
    go false = g

-- ---- a list of calls

-- the history after a list of calls
pub record Reached (w : World) (l : Log) : Type 0 where
  pub history : History
  pub good : Good history
  pub world : w ≡ image history
  pub log : history.log ≡ l

pub reached : (rs : List Request) (h : History) → Good h → AllTyped rs → Reached (run_after (image h) rs) (Paper.log_after h.log (map call_of rs))
unfolding run_after Paper.log_after
reached [] h g ok = record { history = h; good = g; world = refl; log = refl }
reached (r ∷ rs) h g ok =
    let s = reached rs (Steps.after h (call_of r)) (good_after h g r ok.0) ok.1 in
    record {
      history = s.history;
      good = s.good;
      world = ap (λ (w : World). run_after w rs) (world_is h g r ok.0) ∙ s.world;
      log = s.log ∙ ap (λ (l : Log). Paper.log_after l (map call_of rs)) (Steps.after_log h (call_of r));
    }
