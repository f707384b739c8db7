-- What is told of lifts that were accepted: every record of it is of the form that an import accepts, and the lifts of such records tell the same
-- again. Assumes nothing.
use mathlib.Core.Path.{◌≡◌, refl, ap, ap₂, ◌∙◌}
use mathlib.Core.List.{List, [], ◌∷◌, map}
use Prim.Native.Nat.{ℕ, ◌^◌, ◌≤◌, ◌<◌}
use native.Mathlib.Omega.{arith}
use Rattle.codec.specs.Area.{part, repeated}
use Rattle.codec.specs.Number.{le, bytes, number_at}
use Rattle.codec.proofs.Areas.{length_part, part_all, part_append_left}
use Rattle.codec.proofs.Numbers.{length_bytes, le_bytes, le_below}
use Rattle.segment.proofs.ImageBytes.{bytes_part}
use Rattle.paper_log.specs.Log.{Lift}
use Rattle.refinement.proofs.Good.{GoodLift, GoodLifts}
use Rattle.lift_text.specs.Text.{Told}
use Rattle.csv_text.specs.Words.{Tellable, AllTellable}
use Rattle.import.specs.Call.{note_of}
use Rattle.text_logs.specs.TextLog.{told_of, lift_told}
use Rattle.text_logs.proofs.Imports.{told_typed}

-- ---- of a lift

member_most_lem : (l : Lift) → GoodLift l → number_at l.note 0 4 ≤ 4294967295
member_most_lem l g =
    let n = length_part l.note 0 4 (omega (arith, g.note)) in
    let m : number_at l.note 0 4 < 256 ^ 4 = rw n at (le_below (part l.note 0 4) (bytes_part l.note 0 4 g.bytes)) in
    omega arith

pub told_tellable : (ls : List Lift) → GoodLifts ls → AllTellable (map told_of ls)
told_tellable [] g = tt
told_tellable (l ∷ ls) g =
    (record { time = g.0.time; load = g.0.load; member = member_most_lem l g.0 }, told_tellable ls g.1)

-- ---- of a record

pub lift_good : (r : Told) → Tellable r → GoodLift (lift_told r)
lift_good r t =
    let n = told_typed 0 r in
    record { time = t.time; load = t.load; note = n.0; bytes = n.1 }

member_back : (m : ℕ) → m ≤ 4294967295 → number_at (note_of m) 0 4 ≡ m
unfolding note_of
member_back m h =
    ap le (part_append_left (bytes 4 m) (repeated 16 0) 0 4 (omega (arith, length_bytes 4 m)) ∙ part_all (bytes 4 m) 4 (length_bytes 4 m))
    ∙ le_bytes 4 m (omega arith)

pub told_back : (rs : List Told) → AllTellable rs → map told_of (map lift_told rs) ≡ rs
told_back [] t = refl
told_back (r ∷ rs) t =
    ap₂ {C = List Told} ◌∷◌
    (ap {B = Told} (λ (m : ℕ). record { time = r.time; load = r.load; member = m }) (member_back r.member t.0.member))
    (told_back rs t.1)
