-- The paper log's import of a text that an export has written, into a log of form 1: where times do not fall and serials are left, every record is
-- accepted, and its lift goes in. By induction over the records. Assumes nothing.
use mathlib.Core.Path.{◌≡◌, refl, sym, ap, subst, ◌∙◌}
use mathlib.Core.Bool.{not}
use mathlib.Core.List.{List, [], ◌∷◌, ◌++◌, map, append_assoc, append-nil}
use Prim.Native.Nat.{ℕ, suc, ◌+◌, ◌≤◌, ◌<◌}
use native.Mathlib.Omega.{arith}
use lib.Dec.{eqb}
use lib.ListN.{length}
use borrow.Author.Tests.{eq-eqb, le-leb, le-ltb, lt-leb}
use Rattle.lift.specs.Limits.{time_limit}
use Rattle.bounds.specs.Grounds.{ground}
use Rattle.form.specs.declared.Form.TheVariants.{New}
use Rattle.form.specs.Forms.{step}
use Rattle.store.specs.World.{World}
use Rattle.paper_log.specs.Log.{Lift, Log, open_serial, append_log}
use Rattle.paper_log.specs.Calls as Paper
use Rattle.round_trips.specs.Reaches.{Reaches, called}
use Rattle.round_trips.proofs.Known.{known}
use Rattle.lift_text.specs.Text.{Told, record_text, file_text}
use Rattle.csv_text.specs.Words.{Tellable, AllTellable}
use Rattle.csv_text.proofs.ReadBack.{record_back, file_back, file_heading}
use Rattle.import.specs.Fold.{Imported, import_lines, import_text}
use Rattle.text_logs.specs.TextLog.{lift_told, append_told, import_of_log}
use Rattle.text_logs.proofs.Imports.{request_told, told_typed}
use Rattle.text_logs.proofs.Told.{lift_good}
use Rattle.text_logs.proofs.InOrder.{NotFalling}
use Rattle.text_logs.proofs.Feeding.{Held, EndsWith, Appended, append_is}

-- all went in: what the log has come to hold
pub record Fed (i : Imported Log) (came : List Lift) : Type 0 where
  pub number : i.number ≡ 0
  pub line : i.line ≡ 0
  pub held : Held i.left came
  pub ends : EndsWith i.left.current came

module _ (slots : ℕ) (least : 2 ≤ slots) (most : slots ≤ 4096) where
  -- ---- one record

  -- no ground holds
  told_accepted : (x : Log) (r : Told) → slots ≡ x.slots → Tellable r → x.next ≤ r.time → open_serial x < 999999998
      → Paper.number_of x (append_told slots r) ≡ 0
  unfolding Paper.number_of
  told_accepted x r s t later early =
      rw (
        eq-eqb slots x.slots s,
        le-leb r.time time_limit t.time,
        t.load,
        le-ltb r.time x.next later,
        lt-leb 999999998 (open_serial x) early,
      )

  pub own_slots : {w : World} {x : Log} → Reaches slots w x → slots ≡ x.slots
  own_slots reached = let k = known slots least most reached in sym k.same_slots ∙ ap (λ (l : Log). l.slots) k.log

  module _ {w : World} {x : Log} (reached : Reaches slots w x) (r : Told) (t : Tellable r) where
    abbrev y : Log
    y = Paper.stepped x (append_told slots r)

    told_appended : Paper.number_of x (append_told slots r) ≡ 0 → Appended x (lift_told r) y
    unfolding Paper.stepped Paper.after
    told_appended e =
        let k = known slots least most reached in
        rw e (subst (λ (l : Log). Appended l (lift_told r) (append_log l (lift_told r))) k.log (append_is k.history k.good (lift_told r) (lift_good r t)))

  -- ---- all of them

  abbrev before : Log → ℕ
  before x = ground 1 (not (eqb slots x.slots)) 0

  abbrev number : Log → Told → ℕ
  number x r = Paper.number_of x (append_told slots r)

  abbrev after : Log → Told → Log
  after x r = Paper.stepped x (append_told slots r)

  lines_fed : (rs : List Told) (line : ℕ) (w : World) (x : Log) → Reaches slots w x → x.form ≡ New → NotFalling x.next rs → AllTellable rs
      → open_serial x + length rs ≤ 999999998 → (came : List Lift) → Held x came → EndsWith x.current came
      → Fed (import_lines before number after line (map record_text rs) x) (came ++ map lift_told rs)
  unfolding import_lines
  lines_fed [] line w x reached form order tell room came held ends =
      rw (append-nil came) (record { number = refl; line = refl; held = held; ends = ends })
  lines_fed (r ∷ rs) line w x reached form order tell room came held ends =
      let l : Lift = lift_told r in
      let later = order.0 in
      let e = told_accepted x r (own_slots reached) tell.0 later (omega arith) in
      let a = told_appended reached r tell.0 e in
      let next = a.next ∙ ap (λ v. r.time + step v) form in
      let rest = lines_fed rs (suc line) _ (after x r) (called reached (request_told slots r) (told_typed slots r)) (a.form ∙ form)
      (subst (λ (n : ℕ). NotFalling n rs) (sym (next ∙ omega arith)) order.1) tell.1 (omega (arith, a.serial))
      (came ++ (l ∷ [])) (a.held came held) (a.ends came) in
      rw (record_back r tell.0) (rw e (rw (append_assoc came (l ∷ []) (map lift_told rs)) at rest))

  pub text_fed : (rs : List Told) (w : World) (x : Log) → Reaches slots w x → x.form ≡ New → NotFalling x.next rs → AllTellable rs
      → open_serial x + length rs ≤ 999999998 → (came : List Lift) → Held x came → EndsWith x.current came
      → Fed (import_of_log x slots (file_text rs)) (came ++ map lift_told rs)
  unfolding import_of_log import_text
  text_fed rs w x reached form order tell room came held ends =
      rw (eq-eqb slots x.slots (own_slots reached), file_heading rs, file_back rs)
      (lines_fed rs 2 w x reached form order tell room came held ends)
