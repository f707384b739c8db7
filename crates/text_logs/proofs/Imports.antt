-- An import into a store that is reached from a format (document 02, W-211), in either form: it ends with the number and the line of the paper
-- log's import, and what it leaves is reached too. With counts that are the store's tally it does the same, and they stay its tally. Each append by
-- the theorem of that call, the fold by `Folds`. Assumes nothing.
use mathlib.Core.Path.{◌≡◌, sym, ap, ap₂, ◌∙◌}
use mathlib.Core.Bool.{false, not}
use mathlib.Core.List.{List, [], ◌∷◌}
use Prim.Native.Nat.{ℕ, ◌+◌, ◌≤◌}
use native.Mathlib.Omega.{arith}
use lib.Dec.{eqb}
use lib.ListN.{length-append}
use borrow.Author.Tests.{le-ltb}
use Rattle.codec.specs.Area.{repeated}
use Rattle.codec.specs.Number.{bytes}
use Rattle.codec.proofs.Areas.{length_repeated}
use Rattle.codec.proofs.Numbers.{length_bytes, bytes_below}
use Rattle.lift.specs.Limits.{time_limit}
use Rattle.plate.specs.Total.{total}
use Rattle.bounds.specs.Grounds.{ground, sooner}
use Rattle.tree.proofs.Places.{bytes_append, bytes_repeated}
use Rattle.tally.specs.Answers.{TallyAnswer}
use Rattle.store.specs.World.{World}
use Rattle.store.specs.Calls.{Outcome, state_ground}
use Rattle.questions.specs.Queries.{tally_outcome}
use Rattle.counts.specs.Counts.{counts_broken}
use Rattle.keeping.specs.Keeping.{Store}
use Rattle.paper_log.specs.Log.{Log}
use Rattle.paper_log.specs.Calls as Paper
use Rattle.refinement.specs.Run.{Request, append, Reply, reply, world_after, replies, run_after, Typed}
use Rattle.refinement.proofs.Grounds.{state_passes}
use Rattle.refinement.proofs.Steps.{append_step}
use Rattle.refinement.proofs.TallyHeld.{held_most}
use Rattle.round_trips.specs.Reaches.{Reaches, called}
use Rattle.round_trips.proofs.Known.{Known, known}
use Rattle.keeping_up.specs.KeptRun.{kept_reply, kept_after, kept_replies, kept_run}
use Rattle.keeping_up.proofs.EachKept.{counts_held, held_total}
use Rattle.keeping_up.proofs.KeepsUp as KeepsUp
use Rattle.lift_text.specs.Text.{Told}
use Rattle.import.specs.Call as Call
use Rattle.import.specs.Call.{note_of, import_outcome, ground_kept, append_told_kept, store_of, import_kept}
use Rattle.text_logs.specs.TextLog.{lift_told, append_told, import_of_log, Alike}
use Rattle.text_logs.proofs.Folds.{texts_alike}

-- the append of a record, as the store gets it; its note is 20 bytes
abbrev pub request_told : ℕ → Told → Request
request_told s t = append s t.time t.load (note_of t.member)

pub told_typed : (s : ℕ) (t : Told) → Typed (request_told s t)
unfolding note_of
told_typed s t = (
  length-append (bytes 4 t.member) (repeated 16 0) ∙ ap₂ {C = ℕ} (λ a b. a + b) (length_bytes 4 t.member) (length_repeated 16 0),
  bytes_append (bytes 4 t.member) (repeated 16 0) (bytes_below 4 t.member) (bytes_repeated 16 0 (omega arith)),
)

-- a store whose counts are its tally, beside the plain one
pub record Keeps (slots : ℕ) (v : Store) (w : World) : Type 0 where
  pub log : Log
  pub reached : Reaches slots w log
  pub world : v.world ≡ w
  pub counts : v.counts ≡ (tally_outcome w slots 0 time_limit).counts

module _ (slots : ℕ) (least : 2 ≤ slots) (most : slots ≤ 4096) (s : ℕ) where
  -- ---- without counts

  module _ (w : World) (g : Log) (r : Reaches slots w g) where
    k : Known slots w g
    k = known slots least most r

    -- of grounds 1 to 3 the first alone
    same_ground : state_ground w s 0 ≡ ground 1 (not (eqb s g.slots)) 0
    same_ground =
        ap (λ (x : World). state_ground x s 0) k.world ∙ state_passes k.history k.good s 0
        ∙ ap (λ (l : Log). ground 1 (not (eqb s l.slots)) 0) k.log

    same_number : (t : Told) → (Call.append_told s w t).number ≡ Paper.number_of g (append_told s t)
    same_number t =
        let ok = told_typed s t in
        ap (λ (x : World). (Call.append_told s x t).number) k.world
        ∙ ap (λ (o : Outcome). o.number) (append_step k.history k.good s (lift_told t) ok.0 ok.1)
        ∙ ap (λ (l : Log). Paper.number_of l (append_told s t)) k.log

    still_reached : (t : Told) → Reaches slots (Call.append_told s w t).world (Paper.stepped g (append_told s t))
    unfolding world_after
    still_reached t = called r (request_told s t) (told_typed s t)

  -- the same fold over the paper log
  pub import_alike : {w : World} {g : Log} → Reaches slots w g → (text : List ℕ) → Alike (Reaches slots) (import_outcome w s text) (import_of_log g s text)
  unfolding import_outcome import_of_log
  import_alike {w} {g} r text =
      texts_alike (Reaches slots) (λ v. state_ground v s 0) (λ v t. (Call.append_told s v t).number) (λ v t. (Call.append_told s v t).world)
      (λ x. ground 1 (not (eqb s x.slots)) 0) (λ x t. Paper.number_of x (append_told s t)) (λ x t. Paper.stepped x (append_told s t))
      same_ground same_number still_reached text w g r

  -- ---- with counts

  module _ (v : Store) (w : World) (e : Keeps slots v w) where
    abbrev here : Store
    here = record { world = w; counts = v.counts }

    same_store : v ≡ here
    same_store = ap {B = Store} (λ (x : World). record { world = x; counts = v.counts }) e.world

    -- counts that are a tally come to no more than is held
    few : counts_broken v.counts ≡ false
    unfolding kept_run Paper.log_after
    few =
        let h = known slots least most e.reached in
        let c : v.counts ≡ counts_held e.log = KeepsUp.counts_of_log slots least most e.reached v.counts e.counts [] tt in
        le-ltb 1310720 (total v.counts)
        (omega (
          arith,
          ap total c,
          held_total e.log,
          ap (λ (l : Log). total (counts_held l)) h.log,
          held_total h.history.log,
          held_most h.history h.good,
          h.good.most,
        ))

    kept_ground_lem : ground_kept s v ≡ state_ground w s 0
    unfolding sooner
    kept_ground_lem = rw few (ap (λ (x : World). state_ground x s 0) e.world)

    module _ (t : Told) where
      abbrev one : List Request
      one = request_told s t ∷ []

      typed : Typed (request_told s t)
      typed = told_typed s t

      kept_number : (append_told_kept s v t).number ≡ (Call.append_told s w t).number
      unfolding kept_replies replies kept_reply reply
      kept_number =
          ap (λ (x : Store). (append_told_kept s x t).number) same_store
          ∙ ap first (KeepsUp.kept_replies_lem slots least most e.reached v.counts e.counts one (typed, tt))
        where
          first : List Reply → ℕ
          first [] = 0
          first (a ∷ rest) = a.number

      kept_store : Keeps slots (store_of (append_told_kept s v t)) (Call.append_told s w t).world
      unfolding kept_run run_after kept_after world_after Paper.log_after
      kept_store = record {
        log = Paper.stepped e.log (append_told s t);
        reached = still_reached w e.log e.reached t;
        world = ap (λ (x : Store). (append_told_kept s x t).world) same_store
            ∙ KeepsUp.kept_world slots least most e.reached v.counts e.counts one (typed, tt);
        counts = ap (λ (x : Store). (append_told_kept s x t).counts) same_store
            ∙ sym (ap (λ (a : TallyAnswer). a.counts) (KeepsUp.keeps_up slots least most e.reached v.counts e.counts one (typed, tt)));
      }

  pub kept_alike : (v : Store) (w : World) → Keeps slots v w → (text : List ℕ) → Alike (Keeps slots) (import_kept v s text) (import_outcome w s text)
  unfolding import_kept import_outcome
  kept_alike v w e text =
      texts_alike (Keeps slots) (ground_kept s) (λ x t. (append_told_kept s x t).number) (λ x t. store_of (append_told_kept s x t))
      (λ x. state_ground x s 0) (λ x t. (Call.append_told s x t).number) (λ x t. (Call.append_told s x t).world)
      kept_ground_lem kept_number kept_store text v w e
