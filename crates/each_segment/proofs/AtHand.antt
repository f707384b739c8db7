-- A segment's turn: a closed one whatever stands in the page buffer, the open one with lifts or without. Assumes nothing.
use mathlib.Core.Path.{◌≡◌, refl, sym, ap, ◌∙◌}
use mathlib.Core.Bool.{true}
use mathlib.Core.Option.{some}
use mathlib.Core.List.{List}
use Prim.Native.Nat.{ℕ}
use native.Mathlib.Omega.{arith}
use lib.ListN.{length}
use Rattle.flash.specs.Chip.{slot_of}
use Rattle.bitset.specs.declared.Bits.{Bits}
use Rattle.bitset.specs.Inner.Words.{empty_words}
use Rattle.bitset.proofs.Set.{members_empty}
use Rattle.sweep.specs.declared.Records.{Records}
use Rattle.sweep.specs.declared.Sweep.{Sweep}
use Rattle.sweep.specs.Inner.Swept.{swept_from}
use Rattle.visit.specs.declared.Closed.{Closed}
use Rattle.visit.specs.declared.Log.{Log}
use Rattle.visit.specs.declared.Query.{Query}
use Rattle.visit.specs.Visit.{closed_matches, closed_rows, open_matches, open_rows}
use Rattle.visit.specs.Inner.Sound.{ClosedSound, LogSound, closed_records, open_records}
use Rattle.visit.proofs.Areas.{open_slot_lem, open_recorded}
use Rattle.walk.specs.declared.Cursor.{Cursor}
use Rattle.found.proofs.Matched.{closed_some, open_none, open_good}
use Rattle.found.proofs.Placed.{closed_anyhow, open_placed}
use Rattle.each_segment.specs.declared.Turn.{Turn}
use Rattle.each_segment.specs.Inner.Turns.{AtHand}

-- the turn that a segment's matches make
abbrev turn_of : Sweep → Cursor → ℕ → Records → Turn
turn_of m c slot records = record { c = c; slot = slot; records = records; set = m.set }

-- ---- a closed segment

pub closed_at_hand : (nand : List ℕ) (s : Closed) (q : Query) (c : Cursor) → ClosedSound nand s → (m : Sweep)
    → m ≡ swept_from empty_words (closed_matches nand s q) → m.good ≡ true → (records : Records) → records ≡ closed_records s
    → (page : List ℕ) → length page ≡ 512 → AtHand nand page (closed_rows nand s q) c (turn_of m c s.slot records)
closed_at_hand nand s q c sound m is good records records_is page size =
    let p = closed_anyhow nand s q sound m is page (omega arith) records records_is in
    record {
      same_cursor = refl;
      rows = closed_some nand s q m is good ∙ ap some (sym p.are);
      readable = record { inside = sound.inside; recorded = p.recorded; below = p.below };
    }

-- ---- the open segment

module _ (nand nor page : List ℕ) (g : Log) (q : Query) (c : Cursor) (sound : LogSound nand nor g) (size : length page ≡ 512)
    (slot : ℕ) (slot_is : slot ≡ slot_of g.current g.slots) (records : Records) (records_is : records ≡ open_records g) where
  pub open_at_hand : (g.count ≡ 0 → ⊥) → (m : Sweep) → m ≡ swept_from empty_words (open_matches nand nor page g q) → m.good ≡ true
      → AtHand nand page (open_rows nand nor page g q) c (turn_of m c slot records)
  open_at_hand h m is good =
      let p = open_placed nand nor page g q sound size h m is _ refl records records_is in
      record {
        same_cursor = refl;
        rows = open_good nand nor page g q h m is good ∙ ap some (sym (rw slot_is p.are));
        readable =
            record {
              inside = rw slot_is (omega (arith, sound.nand_size, open_slot_lem nand nor g sound));
              recorded = rw slot_is p.recorded;
              below = p.below;
            };
      }

  -- without lifts
  pub empty_at_hand : g.count ≡ 0 → (set : Bits) → set.words ≡ empty_words
      → AtHand nand page (open_rows nand nor page g q) c (record { c = c; slot = slot; records = records; set = set })
  empty_at_hand z set none =
      record {
        same_cursor = refl;
        rows = open_none nand nor page g q z ∙ rw (none, members_empty);
        readable =
            record {
              inside = rw slot_is (omega (arith, sound.nand_size, open_slot_lem nand nor g sound));
              recorded = rw (slot_is, records_is) (open_recorded nand nor g sound page size);
              below = rw (none, members_empty) tt;
            };
      }
