-- What a plain paper log makes of an export and of an import (document 02, W-211). Assumes nothing.
use Rattle.std.specs.Prelude.{◌≡◌, cond, not, List, map, ℕ, eqb, ltb, ℤ, length}
use Rattle.codec.specs.Area.{part, splice}
use Rattle.codec.specs.Number.{number_at}
use Rattle.bounds.specs.Grounds.{ground, query_ground}
use Rattle.paper_log.specs.Log.{Lift, Log, found}
use Rattle.paper_log.specs.Calls as Paper
use Rattle.lift_text.specs.Text.{Told, file_text}
use Rattle.export.specs.Answers.{ExportAnswer, refused_export}
use Rattle.import.specs.Fold.{Imported, import_text}
use Rattle.import.specs.Call.{note_of}

-- ---- export

-- what a record tells of a lift: "The first four note bytes now hold a member number" (W-208)
abbrev pub told_of : Lift → Told
told_of l = record { time = l.time; load = l.load; member = number_at l.note 0 4 }

-- "header `time,load,member`, then one record per lift"
abbrev pub text_of : List Lift → List ℕ
text_of ls = file_text (map told_of ls)

-- "For an export ground 12 counts the area's bytes, and the length is returned"; the text stands at the area's start, the rest keeps its bytes
abbrev pub written : List ℕ → List ℕ → ExportAnswer
written area text =
    cond (ltb (length area) (length text))
    (refused_export 12 area)
    (record { number = 0; long = length text; area = splice area 0 text })

-- "Export a search": another S gets number 1, any other call the first of 4, 5, 6 and 12 that holds, or 0 with the text of the retained lifts in
-- the window, by serial, then arrival
unfoldable pub export_of_log : Log → ℕ → ℕ → ℕ → ℤ → ℤ → List ℕ → ExportAnswer
export_of_log g slots t1 t2 k1 k2 area =
    let n = ground 1 (not (eqb slots g.slots)) (query_ground t1 t2 k1 k2) in
    cond (eqb n 0) (written area (text_of (found g t1 t2 k1 k2))) (refused_export n area)

-- the text that an accepted export has left in its area
abbrev pub exported : ExportAnswer → List ℕ
exported a = part a.area 0 a.long

-- ---- import

-- the lift of a record: its member in note bytes 0 to 3, "the other note bytes 0"
abbrev pub lift_told : Told → Lift
lift_told r = record { time = r.time; load = r.load; note = note_of r.member }

-- its append
abbrev pub append_told : ℕ → Told → Paper.Call
append_told slots r = Paper.append slots (lift_told r)

-- "appends each in turn"; "A bad record, or a refused append, ends the import, reported with its line, and only earlier ones remain". Of grounds
-- 1 to 3 the paper log knows the first
unfoldable pub import_of_log : Log → ℕ → List ℕ → Imported Log
import_of_log g slots text =
    import_text (λ x. ground 1 (not (eqb slots x.slots)) 0) (λ x r. Paper.number_of x (append_told slots r)) (λ x r. Paper.stepped x (append_told slots r))
    text g

-- two imports that end alike: one number, one line, and what is left so related
pub record Alike {X Y : Type 0} (R : X → Y → Type 0) (i : Imported X) (j : Imported Y) : Type 0 where
  pub number : i.number ≡ j.number
  pub line : i.line ≡ j.line
  pub left : R i.left j.left

-- ---- there and back

-- lifts as they come back from text: of each its time, its load and its member
abbrev pub brought_back : List Lift → List Lift
brought_back ls = map lift_told (map told_of ls)
