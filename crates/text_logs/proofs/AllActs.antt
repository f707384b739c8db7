-- Lists of calls and imports on a store whose counts are its tally (document 02, W-210 and W-211): each comes back as the paper log has it, and
-- after all of them the counts are the tally of the whole store. By induction over the list. Assumes nothing.
use mathlib.Core.Path.{◌≡◌, refl, sym, ap, ap₂, ◌∙◌}
use mathlib.Core.List.{List, [], ◌∷◌}
use Prim.Native.Nat.{ℕ, ◌≤◌}
use Rattle.lift.specs.Limits.{time_limit}
use Rattle.plate.specs.Plate.{counts_of}
use Rattle.tally.specs.Answers.{TallyAnswer}
use Rattle.store.specs.World.{World}
use Rattle.questions.specs.Queries.{tally_outcome}
use Rattle.keeping.specs.Keeping.{Store, store}
use Rattle.paper_log.specs.Log.{Log, codes, retained}
use Rattle.paper_log.specs.Calls as Paper
use Rattle.refinement.specs.Run.{Request, call_of, Reply, world_after, run_after, expected_all, expected, Typed}
use Rattle.round_trips.specs.Reaches.{Reaches, called}
use Rattle.keeping_up.specs.KeptRun.{kept_reply, kept_replies, kept_after, kept_run}
use Rattle.keeping_up.proofs.KeepsUp as KeepsUp
use Rattle.import.specs.Call.{import_kept}
use Rattle.text_logs.specs.TextLog.{import_of_log}
use Rattle.text_logs.specs.Acts.{Act, calls, imports, Back, replied, ended, act_back, act_after, acts_back, acts_run, paper_back, paper_after, paper_all_back, paper_run, TypedActs}
use Rattle.text_logs.proofs.TextLogs.{import_reached, kept_import_number, kept_import_line, kept_import_world, import_keeps_up}

-- a store whose counts are its tally, and its paper log
pub record Tallied (slots : ℕ) (v : Store) (g : Log) : Type 0 where
  pub reached : Reaches slots v.world g
  pub tally : v.counts ≡ (tally_outcome v.world slots 0 time_limit).counts

abbrev first_reply : List Reply → Reply → Reply
first_reply [] r = r
first_reply (a ∷ rest) r = a

module _ (slots : ℕ) (least : 2 ≤ slots) (most : slots ≤ 4096) where
  -- ---- one act

  -- a call
  module _ (v : Store) (g : Log) (t : Tallied slots v g) (r : Request) (ok : Typed r) where
    call_back : kept_reply v r ≡ expected (Paper.answered g (call_of r)) r
    unfolding kept_replies expected_all Paper.answers
    call_back =
        ap (λ (rs : List Reply). first_reply rs (kept_reply v r))
        (KeepsUp.kept_as_paper_log slots least most t.reached v.counts t.tally (r ∷ []) (ok, tt))

    call_world : (kept_after v r).world ≡ world_after v.world r
    unfolding kept_run run_after
    call_world = KeepsUp.kept_world slots least most t.reached v.counts t.tally (r ∷ []) (ok, tt)

    call_tallied : Tallied slots (kept_after v r) (Paper.stepped g (call_of r))
    unfolding kept_run run_after
    call_tallied = record {
      reached = rw call_world (called t.reached r ok);
      tally = sym (ap (λ (w : World). (tally_outcome w slots 0 time_limit).counts) call_world
          ∙ ap (λ (a : TallyAnswer). a.counts) (KeepsUp.keeps_up slots least most t.reached v.counts t.tally (r ∷ []) (ok, tt)));
    }

  -- an import
  module _ (v : Store) (g : Log) (t : Tallied slots v g) (s : ℕ) (text : List ℕ) where
    import_tallied : Tallied slots (import_kept v s text).left (import_of_log g s text).left
    import_tallied =
        let e = kept_import_world slots least most t.reached v.counts t.tally s text in
        record {
          reached = rw e (import_reached slots least most t.reached s text).left;
          tally = sym (ap (λ (w : World). (tally_outcome w slots 0 time_limit).counts) e
              ∙ ap (λ (a : TallyAnswer). a.counts) (import_keeps_up slots least most t.reached v.counts t.tally s text));
        }

    import_back : ended (import_kept v s text).number (import_kept v s text).line ≡ ended (import_of_log g s text).number (import_of_log g s text).line
    import_back =
        let i = import_reached slots least most t.reached s text in
        ap₂ {C = Back} ended
        (kept_import_number slots least most t.reached v.counts t.tally s text ∙ i.number)
        (kept_import_line slots least most t.reached v.counts t.tally s text ∙ i.line)

  -- ---- all of them

  record All (v : Store) (g : Log) (acts : List Act) : Type 0 where
    back : acts_back v acts ≡ paper_all_back g acts
    tallied : Tallied slots (acts_run v acts) (paper_run g acts)

  all : (acts : List Act) (v : Store) (g : Log) → Tallied slots v g → TypedActs acts → All v g acts
  unfolding acts_back paper_all_back acts_run paper_run act_back paper_back act_after paper_after
  all [] v g t ok = record { back = refl; tallied = t }
  all (calls r ∷ rest) v g t ok =
      let more = all rest (kept_after v r) (Paper.stepped g (call_of r)) (call_tallied v g t r ok.0) ok.1 in
      record {
        back = ap₂ {C = List Back} ◌∷◌ (ap replied (call_back v g t r ok.0)) more.back;
        tallied = more.tallied;
      }
  all (imports s text ∷ rest) v g t ok =
      let more = all rest (import_kept v s text).left (import_of_log g s text).left (import_tallied v g t s text) ok in
      record {
        back = ap₂ {C = List Back} ◌∷◌ (import_back v g t s text) more.back;
        tallied = more.tallied;
      }

  -- ---- from any store that formats, calls and conversions lead to, with counts that are its tally

  module _ {w : World} {g : Log} (r : Reaches slots w g) (counts : List ℕ) (start : counts ≡ (tally_outcome w slots 0 time_limit).counts)
      (acts : List Act) (typed : TypedActs acts) where
    abbrev at_end : Store
    at_end = acts_run (store w counts) acts

    through : All (store w counts) g acts
    through = all acts (store w counts) g (record { reached = r; tally = start }) typed

    -- every act comes back as the paper log has it
    pub acts_as_paper_log : acts_back (store w counts) acts ≡ paper_all_back g acts
    acts_as_paper_log = through.back

    -- the store after them is reached again, by the paper log after them
    pub acts_reach : Reaches slots (acts_run (store w counts) acts).world (paper_run g acts)
    acts_reach = through.tallied.reached

    -- the counts are those of the paper log's retained lifts
    pub acts_count : (acts_run (store w counts) acts).counts ≡ counts_of (codes (retained (paper_run g acts)))
    unfolding kept_run Paper.log_after
    acts_count = KeepsUp.counts_of_log slots least most acts_reach at_end.counts through.tallied.tally [] tt

    -- "keeping any counts": "they equal a tally of the whole store", which is accepted
    pub keeps_up_with_imports : tally_outcome (acts_run (store w counts) acts).world slots 0 time_limit
        ≡ record { number = 0; counts = (acts_run (store w counts) acts).counts }
    unfolding kept_run run_after
    keeps_up_with_imports = KeepsUp.keeps_up slots least most acts_reach at_end.counts through.tallied.tally [] tt
