-- Neither an export nor an import of a store that is reached from a format meets damage or an unerased page (document 02, W-211, with README's
-- demand 3). Assumes nothing.
use mathlib.Core.Path.{◌≡◌, refl}
use mathlib.Core.Bool.{Bool, true, false, cond, not, ◌&&◌, ◌||◌}
use mathlib.Core.Option.{Option, none, some}
use mathlib.Core.List.{List, [], ◌∷◌}
use Prim.Native.Nat.{ℕ, suc, ◌≤◌}
use lib.Dec.{eqb, ltb}
use lib.IntN.{ℤ}
use lib.ListN.{length}
use lib.Signed.{lt_z}
use Rattle.codec.specs.Area.{splice}
use Rattle.lift.specs.Limits.{time_ok, load_ok}
use Rattle.bounds.specs.Grounds.{ground, query_ground}
use Rattle.store.specs.World.{World}
use Rattle.paper_log.specs.Log.{Log, found}
use Rattle.paper_log.specs.Calls as Paper
use Rattle.refinement.specs.Run.{expected, expected_all}
use Rattle.refinement.proofs.Demands.{fair_all}
use Rattle.round_trips.specs.Reaches.{Reaches}
use Rattle.lift_text.specs.Text.{Told}
use Rattle.csv_text.specs.Grammar.{lines_of, has_heading, after_first, record_in}
use Rattle.export.specs.Answers.{ExportAnswer, refused_export}
use Rattle.export.specs.Call.{export_outcome}
use Rattle.import.specs.Fold.{Imported, line_number, line_after, import_lines, import_text}
use Rattle.import.specs.Call.{import_outcome}
use Rattle.text_logs.specs.TextLog.{text_of, export_of_log, append_told, import_of_log}
use Rattle.text_logs.proofs.Imports.{request_told}
use Rattle.text_logs.proofs.TextLogs.{export_reached, import_reached}

-- neither 10 nor 11
abbrev pub Fair : ℕ → Type 0
Fair n = (eqb n 10 || eqb n 11) ≡ false

-- ---- an export

fair_export : (g : Log) (s t1 t2 : ℕ) (k1 k2 : ℤ) (area : List ℕ) → Fair (export_of_log g s t1 t2 k1 k2 area).number
unfolding export_of_log query_ground
fair_export g s t1 t2 k1 k2 area =
    go (not (eqb s g.slots)) (not (time_ok t1 && time_ok t2)) (not (load_ok k1 && load_ok k2)) (ltb t2 t1 || lt_z k2 k1) (ltb (length area) (length text))
  where
    text : List ℕ
    text = text_of (found g t1 t2 k1 k2)

    all : ExportAnswer
    all = record { number = 0; long = length text; area = splice area 0 text }

    go : (a b c d e : Bool)
        → Fair (cond (eqb (ground 1 a (ground 4 b (ground 5 c (ground 6 d 0)))) 0) (cond e (refused_export 12 area) all)
        (refused_export (ground 1 a (ground 4 b (ground 5 c (ground 6 d 0)))) area)).number
    go true b c d e = refl
    go false true c d e = refl
    go false false true d e = refl
    go false false false true e = refl
    go false false false false true = refl
    go false false false false false = refl

-- ---- an import: what holds of 0, of 18, of the grounds before a record and of every append's number holds of its own

module _ {X : Type 0} (before : X → ℕ) (number : X → Told → ℕ) (after : X → Told → X) (of_before : (x : X) → Fair (before x))
    (of_number : (x : X) (t : Told) → Fair (number x t)) where
  either : (t : Bool) (i j : Imported X) → Fair i.number → Fair j.number → Fair (cond t i j).number
  either true i j a b = a
  either false i j a b = b

  of_line : (x : X) (o : Option Told) → Fair (line_number before number after x o)
  of_line x none = go (eqb (before x) 0)
    where
      go : (t : Bool) → Fair (cond t 18 (before x))
      go true = refl
      go false = of_before x
  of_line x (some t) = of_number x t

  of_lines : (line : ℕ) (ls : List (List ℕ)) (x : X) → Fair (import_lines before number after line ls x).number
  unfolding import_lines
  of_lines line [] x = refl
  of_lines line (l ∷ ls) x =
      either (eqb (line_number before number after x (record_in l)) 0) _ _ (of_lines (suc line) ls (line_after before number after x (record_in l)))
      (of_line x (record_in l))

  fair_text : (text : List ℕ) (x : X) → Fair (import_text before number after text x).number
  unfolding import_text
  fair_text text x =
      either (eqb (before x) 0) _ _ (either (has_heading (lines_of text)) _ _ (of_lines 2 (after_first (lines_of text)) x) refl) (of_before x)

fair_append : (s : ℕ) (x : Log) (t : Told) → Fair (Paper.number_of x (append_told s t))
unfolding expected_all expected Paper.answers Paper.answered
fair_append s x t = (fair_all (request_told s t ∷ []) x).0

fair_ground : (a : Bool) → Fair (ground 1 a 0)
fair_ground true = refl
fair_ground false = refl

fair_import : (g : Log) (s : ℕ) (text : List ℕ) → Fair (import_of_log g s text).number
unfolding import_of_log
fair_import g s text =
    fair_text (λ x. ground 1 (not (eqb s x.slots)) 0) (λ x t. Paper.number_of x (append_told s t)) (λ x t. Paper.stepped x (append_told s t))
    (λ x. fair_ground (not (eqb s x.slots))) (fair_append s) text g

-- ---- of every store that formats, calls and conversions lead to

module _ (slots : ℕ) (least : 2 ≤ slots) (most : slots ≤ 4096) {w : World} {g : Log} (r : Reaches slots w g) where
  pub export_undamaged : (s t1 t2 : ℕ) (k1 k2 : ℤ) (area : List ℕ) → Fair (export_outcome w s t1 t2 k1 k2 area).number
  export_undamaged s t1 t2 k1 k2 area = rw (export_reached slots least most r s t1 t2 k1 k2 area) (fair_export g s t1 t2 k1 k2 area)

  pub import_undamaged : (s : ℕ) (text : List ℕ) → Fair (import_outcome w s text).number
  import_undamaged s text = rw (import_reached slots least most r s text).number (fair_import g s text)
