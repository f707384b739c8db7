-- The rows of lifts that were accepted tell of them what the lifts tell: time, load and member. Assumes nothing.
use mathlib.Core.Path.{◌≡◌, refl, sym, ap, ap₂, ◌∙◌}
use mathlib.Core.List.{List, [], ◌∷◌, map}
use Prim.Native.Nat.{ℕ}
use native.Mathlib.Omega.{arith}
use Rattle.codec.specs.Area.{part}
use Rattle.codec.specs.Number.{le}
use Rattle.codec.proofs.Areas.{part_all, part_part}
use Rattle.lift.specs.Limits.{stored, load_of}
use Rattle.lift.proofs.Codes.{within_limits}
use Rattle.lift.proofs.Records.{Holds, length_record, record_read}
use Rattle.paper_log.specs.Log.{Lift, row_of}
use Rattle.refinement.proofs.Good.{GoodLift, GoodLifts}
use Rattle.lift_text.specs.Text.{Told, told_in}
use Rattle.text_logs.specs.TextLog.{told_of}

row_told : (l : Lift) → GoodLift l → told_in (row_of l) ≡ told_of l
row_told l g =
    let n = length_record l.time (stored l.load) l.note g.note in
    let k = within_limits l.load g.load in
    let r : Holds (row_of l) 0 l.time (stored l.load) l.note =
    record_read l.time (stored l.load) l.note (omega (arith, g.time)) (omega (arith, k.high)) g.note (row_of l) 0
    (omega arith) (part_all (row_of l) 32 n) in
    let load = ap load_of r.code_is ∙ k.load in
    let member = ap le (sym (part_part (row_of l) 12 20 0 4 (omega arith) (omega arith)) ∙ ap (λ (p : List ℕ). part p 0 4) r.note_is) in
    rw (r.time_is, load, member)

pub rows_told : (ls : List Lift) → GoodLifts ls → map told_in (map row_of ls) ≡ map told_of ls
rows_told [] g = refl
rows_told (l ∷ ls) g = ap₂ {C = List Told} ◌∷◌ (row_told l g.0) (rows_told ls g.1)
