-- The round trip (document 02, W-211): "An export from a store reached from a format, imported into a fresh store and exported whole, gives the same
-- bytes, provided the import drops nothing." The first store may be of either form and the export's window any; the fresh one may be of another S.
-- Assumes nothing.
use mathlib.Core.Path.{◌≡◌, refl, sym, ap, subst, ◌∙◌}
use mathlib.Core.Bool.{Bool, true, false, cond, not}
use mathlib.Core.List.{List, [], ◌∷◌, ◌++◌, map}
use Prim.Native.Nat.{ℕ, ◌≤◌}
use native.Mathlib.Omega.{arith}
use lib.Dec.{eqb, ltb}
use lib.IntN.{ℤ}
use lib.ListN.{length, length-map}
use borrow.Author.Tests.{eq-eqb, ltb-false}
use Rattle.codec.specs.Area.{splice}
use Rattle.codec.proofs.Areas.{part_splice}
use Rattle.lift.specs.Limits.{time_limit, load_least, load_most}
use Rattle.bounds.specs.Grounds.{ground, query_ground}
use Rattle.form.specs.declared.Form.TheVariants.{New}
use Rattle.store.specs.World.{World}
use Rattle.store.specs.Calls.{format_outcome}
use Rattle.paper_log.specs.Log.{Lift, Log, begun, open_serial, retained, found}
use Rattle.refinement.proofs.TallyFound.{good_found}
use Rattle.refinement.proofs.TallyHeld.{found_held}
use Rattle.round_trips.specs.Reaches.{Chips, Reaches, formatted}
use Rattle.round_trips.proofs.Known.{Known, known}
use Rattle.round_trips.proofs.RoundTrips.{serials_kept}
use Rattle.lift_text.specs.Text.{file_text}
use Rattle.csv_text.specs.Words.{AllTellable}
use Rattle.export.specs.Answers.{ExportAnswer, refused_export}
use Rattle.export.specs.Call.{export_outcome}
use Rattle.import.specs.Call.{import_outcome}
use Rattle.text_logs.specs.TextLog.{told_of, text_of, written, export_of_log, exported, import_of_log, brought_back}
use Rattle.text_logs.proofs.Told.{told_tellable, told_back}
use Rattle.text_logs.proofs.InOrder.{NotFalling, found_order}
use Rattle.text_logs.proofs.Feeding.{Held, whole, fewer, held_begun, ends_none}
use Rattle.text_logs.proofs.Fed.{Fed, own_slots, text_fed}
use Rattle.text_logs.proofs.TextLogs.{export_reached, export_whole, import_reached}

-- ---- the text of an accepted export

written_text : (area text : List ℕ) → (written area text).number ≡ 0 → exported (written area text) ≡ text
written_text area text z = go (ltb (length area) (length text)) refl z
  where
    all : ExportAnswer
    all = record { number = 0; long = length text; area = splice area 0 text }

    go : (t : Bool) → ltb (length area) (length text) ≡ t → (cond t (refused_export 12 area) all).number ≡ 0
        → exported (cond t (refused_export 12 area) all) ≡ text
    go true e z = absurd (omega arith)
    go false e z = part_splice area 0 text (omega (arith, ltb-false (length area) (length text) e)) (length text) refl

exported_text : (g : Log) (s t1 t2 : ℕ) (k1 k2 : ℤ) (area : List ℕ) → (export_of_log g s t1 t2 k1 k2 area).number ≡ 0
    → exported (export_of_log g s t1 t2 k1 k2 area) ≡ text_of (found g t1 t2 k1 k2)
unfolding export_of_log
exported_text g s t1 t2 k1 k2 area z = go (eqb n 0) refl z
  where
    n : ℕ
    n = ground 1 (not (eqb s g.slots)) (query_ground t1 t2 k1 k2)

    text : List ℕ
    text = text_of (found g t1 t2 k1 k2)

    go : (t : Bool) → eqb n 0 ≡ t → (cond t (written area text) (refused_export n area)).number ≡ 0
        → exported (cond t (written area text) (refused_export n area)) ≡ text
    go true e z = written_text area text z
    go false e z = absurd (let q : ◌≡◌ {A = Bool} true false = sym (eq-eqb n 0 z) ∙ e in let o : ◌≡◌ {A = ℕ} 0 1 = cc in omega arith)

-- ---- there and back

module _ (slots : ℕ) (least : 2 ≤ slots) (most : slots ≤ 4096) {w : World} {g : Log} (r : Reaches slots w g)
    (t1 t2 : ℕ) (k1 k2 : ℤ) (area : List ℕ) (accepted : (export_outcome w slots t1 t2 k1 k2 area).number ≡ 0) where
  abbrev lifts : List Lift
  lifts = found g t1 t2 k1 k2

  -- the text that the export leaves at the start of its area
  abbrev text : List ℕ
  text = exported (export_outcome w slots t1 t2 k1 k2 area)

  k : Known slots w g
  k = known slots least most r

  pub text_is : exported (export_outcome w slots t1 t2 k1 k2 area) ≡ text_of (found g t1 t2 k1 k2)
  text_is =
      let e = export_reached slots least most r slots t1 t2 k1 k2 area in
      ap exported e ∙ exported_text g slots t1 t2 k1 k2 area (sym (ap (λ (a : ExportAnswer). a.number) e) ∙ accepted)

  tellable : AllTellable (map told_of lifts)
  tellable =
      subst (λ (x : Log). AllTellable (map told_of (found x t1 t2 k1 k2))) k.log
      (told_tellable (found k.history.log t1 t2 k1 k2) (good_found k.history k.good t1 t2 k1 k2))

  in_order : NotFalling 0 (map told_of lifts)
  in_order = subst (λ (x : Log). NotFalling 0 (map told_of (found x t1 t2 k1 k2))) k.log (found_order t1 t2 k1 k2 k.history k.good)

  few : length (map told_of lifts) ≤ 1310720
  few =
      omega (
        arith,
        length-map lifts told_of,
        ap (λ (x : Log). length (found x t1 t2 k1 k2)) k.log,
        found_held k.history k.good t1 t2 k1 k2,
        k.good.most,
      )

  -- into a fresh store of any S, whatever its chips held
  module _ (slots2 : ℕ) (least2 : 2 ≤ slots2) (most2 : slots2 ≤ 4096) (nand nor : List ℕ) (chips : Chips slots2 nand nor) where
    abbrev fresh : World
    fresh = (format_outcome New nand nor slots2).world

    begins : Reaches slots2 fresh (begun New slots2)
    begins = formatted New nand nor chips

    -- the store after the import, and what the paper log's import makes of a log that has begun
    abbrev at_end : World
    at_end = (import_outcome fresh slots2 text).left

    abbrev log_end : Log
    log_end = (import_of_log (begun New slots2) slots2 text).left

    reached : Reaches slots2 at_end log_end
    reached = (import_reached slots2 least2 most2 begins slots2 text).left

    all : Fed (import_of_log (begun New slots2) slots2 text) (brought_back lifts)
    unfolding begun
    all =
        rw text_is
        (text_fed slots2 least2 most2 (map told_of lifts) fresh (begun New slots2) begins refl in_order tellable (omega (arith, few)) []
        (held_begun New slots2 least2) (ends_none []))

    -- the import is accepted: times do not fall, loads and members are within their limits, and few lifts take few serials
    pub import_accepted : ((import_outcome fresh slots2 text).number ≡ 0) × ((import_outcome fresh slots2 text).line ≡ 0)
    import_accepted =
        let i = import_reached slots2 least2 most2 begins slots2 text in
        (i.number ∙ all.number, i.line ∙ all.line)

    -- the last lift goes into the open serial
    pub last_in_open : (earlier : List Lift) (l : Lift) → brought_back lifts ≡ earlier ++ (l ∷ [])
        → (before : List Lift) × (log_end.current ≡ before ++ (l ∷ []))
    last_in_open = all.ends

    -- which is the serial that the state names as open
    pub open_named : at_end.state.current ≡ open_serial log_end
    open_named = (serials_kept slots2 least2 most2 reached).1

    -- "the import drops nothing": all lifts are retained exactly where the last one's serial is at most S
    pub drops_nothing_if : open_serial log_end ≤ slots2 → retained log_end ≡ brought_back lifts
    drops_nothing_if n = go all.held
      where
        go : Held log_end (brought_back lifts) → retained log_end ≡ brought_back lifts
        go (whole one same few) = same
        go (fewer past lost) = absurd (omega (arith, past, own_slots slots2 least2 most2 reached))

    pub drops_nothing_only_if : retained log_end ≡ brought_back lifts → open_serial log_end ≤ slots2
    drops_nothing_only_if e = go all.held
      where
        go : Held log_end (brought_back lifts) → open_serial log_end ≤ slots2
        go (whole one same few) = omega (arith, few, own_slots slots2 least2 most2 reached)
        go (fewer past lost) = absurd (omega (arith, lost, ap length e))

    told_same : text_of (brought_back lifts) ≡ text
    told_same = ap file_text (told_back (map told_of lifts) tellable) ∙ sym text_is

    -- "exported whole, gives the same bytes, provided the import drops nothing": into any area, 12 where it has no room for them
    pub same_bytes : retained log_end ≡ brought_back lifts → (area2 : List ℕ)
        → export_outcome at_end slots2 0 time_limit load_least load_most area2 ≡ written area2 text
    same_bytes e area2 =
        export_whole slots2 least2 most2 reached area2 ∙ ap (written area2) (ap text_of e ∙ told_same)

    -- as the state tells it
    pub same_bytes_if : at_end.state.current ≤ slots2 → (area2 : List ℕ)
        → export_outcome at_end slots2 0 time_limit load_least load_most area2 ≡ written area2 text
    same_bytes_if n = same_bytes (drops_nothing_if (omega (arith, open_named)))
