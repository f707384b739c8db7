-- A tally that keeps up (document 02, W-210), in every store that formats, calls and conversions lead to, in either form: counts that were its
-- tally, and that each append and drop has kept since, are a tally of the whole store. By induction over the list of calls: the counts stay those
-- of the paper log's retained lifts. Assumes nothing.
use mathlib.Core.Path.{◌≡◌, refl, sym, ap, ap₂, ◌∙◌}
use mathlib.Core.List.{List, [], ◌∷◌, map}
use Prim.Native.Nat.{ℕ, ◌+◌, ◌≤◌}
use native.Mathlib.Omega.{arith}
use Rattle.lift.specs.Limits.{time_limit}
use Rattle.plate.specs.Total.{total}
use Rattle.plate.specs.Plate.{counts_of, no_counts}
use Rattle.plate.proofs.Counts.{counts_none, total_none}
use Rattle.form.specs.declared.Form.{Form}
use Rattle.tally.specs.Answers.{TallyAnswer}
use Rattle.store.specs.World.{World}
use Rattle.store.specs.Calls.{format_outcome}
use Rattle.questions.specs.Queries.{tally_outcome}
use Rattle.keeping.specs.Keeping.{Store, format_kept}
use Rattle.paper_log.specs.Log.{Log, begun, codes, retained, joined}
use Rattle.paper_log.specs.Calls as Paper
use Rattle.refinement.specs.Inner.Image.{image}
use Rattle.refinement.specs.Run.{Request, call_of, Reply, reply, world_after, replies, run_after, expected_all, Typed, AllTyped}
use Rattle.refinement.proofs.AllFound.{whole_tally}
use Rattle.refinement.proofs.Demands as Demands
use Rattle.round_trips.specs.Reaches.{Chips, Reaches, formatted, called}
use Rattle.round_trips.proofs.Known.{Known, known}
use Rattle.round_trips.proofs.RoundTrips.{goes_on_as_paper_log}
use Rattle.keeping_up.specs.KeptRun.{kept_reply, kept_after, kept_replies, kept_run, appended, dropped}
use Rattle.keeping_up.proofs.RetainedLifts.{log_count}
use Rattle.keeping_up.proofs.EachKept.{counts_held, beside, held_total, kept_reply_lem, kept_after_lem}

module _ (slots : ℕ) (least : 2 ≤ slots) (most : slots ≤ 4096) where
  -- ---- a store and the counts of what its log retains

  module _ {w : World} {g : Log} (r : Reaches slots w g) where
    k : Known slots w g
    k = known slots least most r

    tally_held : tally_outcome w slots 0 time_limit ≡ record { number = 0; counts = counts_held g }
    tally_held =
        ap₂ {C = TallyAnswer} (λ x s. tally_outcome x s 0 time_limit) k.world (sym k.same_slots) ∙ whole_tally k.history k.good
        ∙ ap {B = TallyAnswer} (λ (l : Log). record { number = 0; counts = counts_held l }) k.log

    same_store : beside w g ≡ beside (image k.history) k.history.log
    same_store = ap₂ {C = Store} beside k.world (sym k.log)

    one_reply : (c : Request) → Typed c → kept_reply (beside w g) c ≡ reply w c
    one_reply c ok =
        ap (λ (s : Store). kept_reply s c) same_store ∙ kept_reply_lem k.history k.good c ok
        ∙ ap (λ (x : World). reply x c) (sym k.world)

    one_after : (c : Request) → Typed c → kept_after (beside w g) c ≡ beside (world_after w c) (Paper.stepped g (call_of c))
    one_after c ok =
        ap (λ (s : Store). kept_after s c) same_store ∙ kept_after_lem k.history k.good c ok
        ∙ ap₂ {C = Store} (λ (x : World) (l : Log). beside (world_after x c) (Paper.stepped l (call_of c))) (sym k.world) k.log

  -- a list of calls: the replies, the store after them and its tally
  record Kept (w : World) (g : Log) (calls : List Request) : Type 0 where
    answers : kept_replies (beside w g) calls ≡ replies w calls
    store : kept_run (beside w g) calls ≡ beside (run_after w calls) (Paper.log_after g (map call_of calls))
    tally : tally_outcome (run_after w calls) slots 0 time_limit
        ≡ record { number = 0; counts = counts_held (Paper.log_after g (map call_of calls)) }

  all_kept : {w : World} {g : Log} → Reaches slots w g → (calls : List Request) → AllTyped calls → Kept w g calls
  unfolding kept_replies replies kept_run run_after Paper.log_after
  all_kept r [] ok = record { answers = refl; store = refl; tally = tally_held r }
  all_kept {w} {g} r (c ∷ calls) ok =
      let rest : Kept (world_after w c) (Paper.stepped g (call_of c)) calls =
      all_kept {w = world_after w c} {g = Paper.stepped g (call_of c)} (called r c ok.0) calls ok.1 in
      let after = one_after r c ok.0 in
      record {
        answers = ap₂ {C = List Reply} (λ a b. a ∷ b) (one_reply r c ok.0) (ap (λ (s : Store). kept_replies s calls) after ∙ rest.answers);
        store = ap (λ (s : Store). kept_run s calls) after ∙ rest.store;
        tally = rest.tally;
      }

  -- ---- from any store that formats, calls and conversions lead to, with counts that are its tally

  module _ {w : World} {g : Log} (r : Reaches slots w g) (counts : List ℕ) (start : counts ≡ (tally_outcome w slots 0 time_limit).counts)
      (calls : List Request) (typed : AllTyped calls) where
    abbrev at_start : Store
    at_start = record { world = w; counts = counts }

    abbrev at_end : Store
    at_end = kept_run at_start calls

    abbrev log_end : Log
    log_end = Paper.log_after g (map call_of calls)

    are_held : counts ≡ counts_held g
    are_held = start ∙ ap (λ (a : TallyAnswer). a.counts) (tally_held r)

    same_start : at_start ≡ beside w g
    same_start = ap {B = Store} (λ (cs : List ℕ). record { world = w; counts = cs }) are_held

    all : Kept w g calls
    all = all_kept r calls typed

    same_end : at_end ≡ beside (run_after w calls) log_end
    same_end = ap (λ (s : Store). kept_run s calls) same_start ∙ all.store

    -- each call answers as the plain one does: neither 3 nor 10 ever comes of the counts
    pub kept_replies_lem : kept_replies at_start calls ≡ replies w calls
    kept_replies_lem = ap (λ (s : Store). kept_replies s calls) same_start ∙ all.answers

    pub kept_as_paper_log : kept_replies at_start calls ≡ expected_all (Paper.answers g (map call_of calls)) calls
    kept_as_paper_log = kept_replies_lem ∙ goes_on_as_paper_log slots least most r calls typed

    pub kept_world : at_end.world ≡ run_after w calls
    kept_world = ap (λ (s : Store). s.world) same_end

    -- the counts are those of the paper log's retained lifts
    pub counts_of_log : at_end.counts ≡ counts_of (codes (retained log_end))
    counts_of_log = ap (λ (s : Store). s.counts) same_end

    -- "they equal a tally of the whole store", which is accepted
    pub keeps_up : tally_outcome (run_after w calls) slots 0 time_limit ≡ record { number = 0; counts = at_end.counts }
    keeps_up = all.tally ∙ ap {B = TallyAnswer} (λ (cs : List ℕ). record { number = 0; counts = cs }) (sym counts_of_log)

    -- "their sum is the lifts appended less those dropped", from where the list began
    pub sum_kept : total at_end.counts + dropped g (map call_of calls) ≡ total counts + appended g (map call_of calls)
    sum_kept =
        omega (arith, ap total counts_of_log, held_total log_end, ap total are_held, held_total g, log_count (map call_of calls) g)

  -- ---- from an accepted format that keeps counts

  module _ (v : Form) (nand nor : List ℕ) (chips : Chips slots nand nor) where
    pub format_accepted : (format_kept v nand nor slots).number ≡ 0
    unfolding format_kept
    format_accepted = Demands.format_accepted v slots least most nand nor chips.nand_size chips.nor_size

    reached : Reaches slots (format_outcome v nand nor slots).world (begun v slots)
    reached = formatted v nand nor chips

    -- "0 at format" is the tally of an empty store
    none_held : no_counts ≡ (tally_outcome (format_outcome v nand nor slots).world slots 0 time_limit).counts
    unfolding begun joined
    none_held = counts_none ∙ sym (ap (λ (a : TallyAnswer). a.counts) (tally_held reached))

    -- the store after the format
    abbrev begins : Store
    begins = record { world = (format_kept v nand nor slots).world; counts = (format_kept v nand nor slots).counts }

    module _ (calls : List Request) (typed : AllTyped calls) where
      pub replies_from_format : kept_replies begins calls ≡ replies (format_outcome v nand nor slots).world calls
      unfolding format_kept
      replies_from_format = kept_replies_lem reached no_counts none_held calls typed

      pub world_from_format : (kept_run begins calls).world ≡ run_after (format_outcome v nand nor slots).world calls
      unfolding format_kept
      world_from_format = kept_world reached no_counts none_held calls typed

      -- "After any accepted calls from a format, each append and drop keeping counts, they equal a tally of the whole store"; refused calls are
      -- inside too
      pub keeps_up_from_format : tally_outcome (kept_run begins calls).world slots 0 time_limit
          ≡ record { number = 0; counts = (kept_run begins calls).counts }
      unfolding format_kept
      keeps_up_from_format =
          ap (λ (x : World). tally_outcome x slots 0 time_limit) world_from_format ∙ keeps_up reached no_counts none_held calls typed

      -- "and their sum is the lifts appended less those dropped"
      pub sum_from_format : total (kept_run begins calls).counts + dropped (begun v slots) (map call_of calls)
          ≡ appended (begun v slots) (map call_of calls)
      unfolding format_kept
      sum_from_format = omega (arith, sum_kept reached no_counts none_held calls typed, total_none)
