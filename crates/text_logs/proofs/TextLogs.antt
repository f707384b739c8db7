-- Exports and imports of stores that are reached from a format (document 02, W-211), in either form: an export is the text of the lifts that the
-- paper log holds in the window, damage is never met; an import is the paper log's appends, and what it leaves is reached again, with counts that
-- are its tally. Assumes nothing.
use mathlib.Core.Path.{◌≡◌, refl, sym, ap, ap₂, ◌∙◌}
use mathlib.Core.Bool.{Bool, true, false, cond}
use mathlib.Core.List.{List, [], map}
use Prim.Native.Nat.{ℕ, ◌≤◌}
use lib.Dec.{eqb}
use lib.IntN.{ℤ}
use borrow.Author.Tests.{eqb-true}
use Rattle.lift.specs.Limits.{time_limit, load_least, load_most}
use Rattle.plate.specs.Plate.{counts_of}
use Rattle.form.specs.declared.Form.{Form}
use Rattle.found.specs.Found.{found_rows}
use Rattle.store.specs.World.{World, liveness_of}
use Rattle.store.specs.Calls.{format_outcome}
use Rattle.questions.specs.Queries.{log_of, query_of, tally_outcome}
use Rattle.keeping.specs.Keeping.{store}
use Rattle.paper_log.specs.Log.{Log, begun, codes, retained, found}
use Rattle.paper_log.specs.Calls as Paper
use Rattle.refinement.specs.Inner.Image.{History, image}
use Rattle.refinement.specs.Run.{Request, call_of, run_after, AllTyped}
use Rattle.refinement.proofs.Good.{Good}
use Rattle.refinement.proofs.SearchStep.{window_ground, ground_is, found_if}
use Rattle.refinement.proofs.TallyFound.{good_retained, good_found}
use Rattle.refinement.proofs.AllFound.{no_ground, all_rows_lem}
use Rattle.round_trips.specs.Reaches.{Chips, Reaches}
use Rattle.round_trips.proofs.Known.{known}
use Rattle.round_trips.proofs.RoundTrips.{after_calls}
use Rattle.keeping_up.specs.KeptRun.{kept_run}
use Rattle.keeping_up.proofs.KeepsUp as KeepsUp
use Rattle.lift_text.specs.Text.{Told, file_text}
use Rattle.export.specs.Answers.{ExportAnswer, refused_export, export_answer}
use Rattle.export.specs.Call.{export_outcome}
use Rattle.import.specs.Call.{import_outcome, import_kept}
use Rattle.text_logs.specs.TextLog.{text_of, written, export_of_log, import_of_log, Alike}
use Rattle.text_logs.proofs.Rows.{rows_told}
use Rattle.text_logs.proofs.Imports.{Keeps, import_alike, kept_alike}

-- ---- an export of a history's world

module _ (h : History) (good : Good h) (s t1 t2 : ℕ) (k1 k2 : ℤ) (area : List ℕ) where
  abbrev own : ℕ
  own = window_ground h s t1 t2 k1 k2

  history_exports : export_outcome (image h) s t1 t2 k1 k2 area ≡ export_of_log h.log s t1 t2 k1 k2 area
  unfolding export_outcome export_of_log export_answer
  history_exports = rw (ground_is h good s t1 t2 k1 k2) (go (eqb own 0) refl)
    where
      go : (t : Bool) → eqb own 0 ≡ t
          → cond t (export_answer area (found_rows (image h).nand (image h).nor (image h).state.page (log_of (image h).state s)
          (liveness_of (image h)) (query_of t1 t2 k1 k2)))
          (refused_export own area)
          ≡ cond t (written area (text_of (found h.log t1 t2 k1 k2))) (refused_export own area)
      go true e =
          rw (found_if h good s t1 t2 k1 k2 (eqb-true own 0 e))
          (ap (λ (ts : List Told). written area (file_text ts)) (rows_told (found h.log t1 t2 k1 k2) (good_found h good t1 t2 k1 k2)))
      go false e = refl

-- all that it holds
history_exports_all : (h : History) → Good h → (area : List ℕ)
    → export_outcome (image h) h.log.slots 0 time_limit load_least load_most area ≡ written area (text_of (retained h.log))
unfolding export_outcome export_answer
history_exports_all h good area =
    rw (no_ground h good, all_rows_lem h good)
    (ap (λ (ts : List Told). written area (file_text ts)) (rows_told (retained h.log) (good_retained h good)))

-- ---- of every store that formats, calls and conversions lead to

module _ (slots : ℕ) (least : 2 ≤ slots) (most : slots ≤ 4096) where
  module _ {w : World} {g : Log} (r : Reaches slots w g) where
    -- "Export a search": the text of the paper log's lifts in the window
    pub export_reached : (s t1 t2 : ℕ) (k1 k2 : ℤ) (area : List ℕ) → export_outcome w s t1 t2 k1 k2 area ≡ export_of_log g s t1 t2 k1 k2 area
    export_reached s t1 t2 k1 k2 area =
        let k = known slots least most r in
        ap (λ (x : World). export_outcome x s t1 t2 k1 k2 area) k.world
        ∙ history_exports k.history k.good s t1 t2 k1 k2 area
        ∙ ap (λ (x : Log). export_of_log x s t1 t2 k1 k2 area) k.log

    -- "exported whole": an export over all times and loads is refused by ground 12 alone
    pub export_whole : (area : List ℕ) → export_outcome w slots 0 time_limit load_least load_most area ≡ written area (text_of (retained g))
    export_whole area =
        let k = known slots least most r in
        ap₂ {C = ExportAnswer} (λ x s. export_outcome x s 0 time_limit load_least load_most area) k.world (sym k.same_slots)
        ∙ history_exports_all k.history k.good area ∙ ap (λ (x : Log). written area (text_of (retained x))) k.log

    -- an import is the paper log's: its number, its line, and a store that is reached again
    pub import_reached : (s : ℕ) (text : List ℕ) → Alike (Reaches slots) (import_outcome w s text) (import_of_log g s text)
    import_reached s text = import_alike slots least most s r text

    -- ---- "keeping any counts": those that are the store's tally stay so

    module _ (counts : List ℕ) (start : counts ≡ (tally_outcome w slots 0 time_limit).counts) (s : ℕ) (text : List ℕ) where
      kept : Alike (Keeps slots) (import_kept (store w counts) s text) (import_outcome w s text)
      kept =
          kept_alike slots least most s (store w counts) w (record { log = g; reached = r; world = refl; counts = start }) text

      -- number, line and world are those without counts
      pub kept_import_number : (import_kept (store w counts) s text).number ≡ (import_outcome w s text).number
      kept_import_number = kept.number

      pub kept_import_line : (import_kept (store w counts) s text).line ≡ (import_outcome w s text).line
      kept_import_line = kept.line

      pub kept_import_world : (import_kept (store w counts) s text).left.world ≡ (import_outcome w s text).left
      kept_import_world = kept.left.world

      -- the counts are those of the paper log's retained lifts
      pub kept_import_counts : (import_kept (store w counts) s text).left.counts ≡ counts_of (codes (retained (import_of_log g s text).left))
      unfolding kept_run Paper.log_after
      kept_import_counts = KeepsUp.counts_of_log slots least most (import_reached s text).left _ kept.left.counts [] tt

      -- and a tally of the whole store is accepted and gives them
      pub import_keeps_up : tally_outcome (import_outcome w s text).left slots 0 time_limit
          ≡ record { number = 0; counts = (import_kept (store w counts) s text).left.counts }
      unfolding kept_run run_after
      import_keeps_up = KeepsUp.keeps_up slots least most (import_reached s text).left _ kept.left.counts [] tt

  -- after an accepted format and any list of calls
  pub export_of_calls : (v : Form) (nand nor : List ℕ) → Chips slots nand nor → (calls : List Request) → AllTyped calls
      → (s t1 t2 : ℕ) (k1 k2 : ℤ) (area : List ℕ)
      → export_outcome (run_after (format_outcome v nand nor slots).world calls) s t1 t2 k1 k2 area
      ≡ export_of_log (Paper.log_after (begun v slots) (map call_of calls)) s t1 t2 k1 k2 area
  export_of_calls v nand nor chips calls typed = export_reached (after_calls slots v nand nor chips calls typed)
