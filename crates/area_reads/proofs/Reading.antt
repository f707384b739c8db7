-- What is read field by field is what the state in the area gives: its fields, its log, its bounds. Assumes nothing.
use mathlib.Core.Path.{◌≡◌, refl, ◌∙◌}
use mathlib.Core.Bool.{Bool, ◌&&◌}
use mathlib.Core.List.{List}
use Prim.Native.Nat.{ℕ, ◌+◌, ◌<◌}
use native.Mathlib.Numerals.{add-one}
use lib.IntN.{ℤ, pos}
use lib.ListN.{length, get_or, drop}
use lib.Seq.{drop-cons}
use Rattle.codec.specs.Number.{number_at}
use Rattle.codec.proofs.Truth.{and_assoc}
use Rattle.lift.specs.Limits.{load_ok}
use Rattle.bounds.specs.Bounds.{serials_ok, counts_ok, times_ok, span_ok, loads_ok}
use Rattle.bounds.specs.Grounds.{lift_ground}
use Rattle.form.specs.declared.Form.TheVariants.{New}
use Rattle.skiplist.specs.declared.Pointer.{Pointer}
use Rattle.skiplist.specs.Skip.{in_slots}
use Rattle.skiplist.specs.PointerBytes.{pointer_at, pointers_at}
use Rattle.visit.specs.declared.Log.{Log}
use Rattle.store.specs.declared.fields.Fields.{Fields}
use Rattle.store.specs.Bounds.{heads_ok, within_bounds}
use Rattle.store.specs.Inner.Fields.{fields_of}
use Rattle.store.proofs.Grounds.{four_heads, six_tests}
use Rattle.loads.specs.Signed.{load_at, loads_at}
use Rattle.state_bytes.specs.StateBytes.{state_as, state_in}
use Rattle.questions.specs.Queries.{log_of}

-- one load more is tested
pub load_tested : (loads : List ℤ) (i : ℕ) (good ok : Bool) → i < length loads → ok ≡ load_ok (get_or loads i (pos 0))
    → ((good && ok) && loads_ok (drop (i + 1) loads)) ≡ (good && loads_ok (drop i loads))
unfolding loads_ok
load_tested loads i good ok h e = and_assoc good ok _ ∙ rw (drop-cons loads i (pos 0) h, e, add-one)

-- the four heads are tested
pub heads_read : (b : List ℕ) (slots : ℕ) (p q r s : Pointer) (w x y z : Bool) → p ≡ pointer_at New b 19 → q ≡ pointer_at New b 33
    → r ≡ pointer_at New b 47 → s ≡ pointer_at New b 61 → w ≡ in_slots p slots → x ≡ in_slots q slots → y ≡ in_slots r slots
    → z ≡ in_slots s slots → (w && (x && (y && z))) ≡ heads_ok (pointers_at New b 19) slots
unfolding pointers_at
heads_read b slots p q r s w x y z e1 e2 e3 e4 f1 f2 f3 f4 =
    four_heads slots (pointers_at New b 19) p w x y z refl (f1 ∙ rw e1) (f2 ∙ rw e2) (f3 ∙ rw e3) (f4 ∙ rw e4)

-- the numbers of a lift's grounds
pub lift_read : (b : List ℕ) (time next current : ℕ) (z load : ℤ) → z ≡ load → next ≡ number_at b 11 8 → current ≡ number_at b 4 4
    → lift_ground time z next current 0 ≡ lift_ground time load (state_in b).next (state_in b).current 0
unfolding state_in state_as
lift_read b time next current z load e f g = rw (e, f, g)

module _ (b : List ℕ) (oldest current count buckets : ℕ) (e1 : oldest ≡ number_at b 0 4) (e2 : current ≡ number_at b 4 4)
    (e3 : count ≡ number_at b 8 2) (e4 : buckets ≡ number_at b 10 1) where
  pub fields_read : (loads : List ℤ) → loads ≡ loads_at b 75 13
      → ◌≡◌ {A = Fields} (record { oldest = oldest; current = current; count = count; buckets = buckets; loads = loads })
      (fields_of (state_in b))
  unfolding state_in state_as
  fields_read loads e = rw (e1, e2, e3, e4, e)

  module _ (start : ℕ) (e5 : start ≡ number_at b 767 8) where
    pub log_read : (slots : ℕ) (heads : List Pointer) → heads ≡ pointers_at New b 19
        → ◌≡◌ {A = Log} (record {
          slots = slots;
          current = current;
          count = count;
          buckets = buckets;
          start = start;
          oldest = oldest;
          heads = heads;
        }) (log_of (state_in b) slots)
    unfolding state_in state_as
    log_read slots heads e = rw (e1, e2, e3, e4, e5, e)

    -- the six tests of ground 3
    pub bounds_read : (slots next : ℕ) (low high : ℤ) (serials counts times span loads heads : Bool) → next ≡ number_at b 11 8
        → low ≡ load_at b 775 → high ≡ load_at b 779 → serials ≡ serials_ok oldest current count slots
        → counts ≡ counts_ok current count buckets → times ≡ times_ok New current count next 0 start → span ≡ span_ok count low high
        → loads ≡ loads_ok (loads_at b 75 13) → heads ≡ heads_ok (pointers_at New b 19) slots
        → (serials && (counts && (times && (span && (loads && heads))))) ≡ within_bounds New (state_in b) 0 slots
    unfolding state_in state_as
    bounds_read slots next low high serials counts times span loads heads e6 e7 e8 s c t p l h =
        six_tests New (state_in b) 0 slots serials counts times span loads heads (s ∙ rw (e1, e2, e3)) (c ∙ rw (e2, e3, e4))
        (t ∙ rw (e2, e3, e5, e6)) (p ∙ rw (e3, e7, e8)) l h
