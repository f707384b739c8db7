-- One segment in hand: its set, its records and its rows, closed or open. Assumes nothing.
use mathlib.Core.Path.{◌≡◌, refl, sym, ap, subst, ◌∙◌}
use mathlib.Core.Bool.{Bool, true, false}
use mathlib.Core.Option.{Option, none, some}
use mathlib.Core.List.{List, map}
use Prim.Native.Nat.{ℕ, ◌≤◌, ◌<◌}
use native.Mathlib.Omega.{arith}
use lib.Dec.{eqb}
use lib.ListN.{length, get_or}
use borrow.Author.Tests.{eqb-true, eqb-false, eq-eqb, ne_eqb, lt-ltb, le-ltb}
use Rattle.codec.specs.Number.{number_at}
use Rattle.flash.specs.Chip.{page_of, slot_of}
use Rattle.bitset.specs.declared.Bits.{Bits}
use Rattle.bitset.specs.Inner.Words.{empty_words, insert_all, members, Below}
use Rattle.bitset.proofs.Set.{length_insert_all, members_empty}
use Rattle.lift.specs.Rows.{record_in, in_full_pages}
use Rattle.skiplist.specs.Skip.{Live}
use Rattle.header.specs.Header.{header_in}
use Rattle.sweep.specs.Inner.Swept.{swept_from}
use Rattle.sweep.proofs.Found.{below_more}
use Rattle.visit.specs.declared.Closed.{Closed}
use Rattle.visit.specs.declared.Log.{Log}
use Rattle.visit.specs.declared.Query.{Query}
use Rattle.visit.specs.Visit.{closed_lifts, closed_rows, open_matches, open_lifts, open_rows}
use Rattle.visit.specs.Inner.Sound.{ClosedSound, LogSound}
use Rattle.visit.proofs.Areas.{closed_size, open_recorded, open_slot_lem}
use Rattle.walk.specs.declared.Cursor.{Cursor}
use Rattle.walk.specs.declared.Step.{Step}
use Rattle.walk.specs.declared.Step.TheVariants.{End, Damage, Pass, Visit}
use Rattle.walk.specs.Advance.{advance_of}
use Rattle.found.proofs.Counts.{never}
use Rattle.found.proofs.Matched.{closed_rows_are, closed_some, closed_below, open_none, open_rows_are, open_damage, open_good, open_below}
use Rattle.found.proofs.Placed.{map_below, tail_unread}
use Rattle.found.proofs.Most.{step_read}
use Rattle.whole_log.specs.Inner.Held.{set_in, places_in, lifts_at, records_at, row_at, closed_in, closed_sweep, open_sweep, Found}

-- ---- five words

pub swept_words : (o : Option (List ℕ)) → length (swept_from empty_words o).set.words ≡ 5
swept_words none = refl
swept_words (some ps) = length_insert_all empty_words ps

-- a segment's rows, where its slot, its first place behind the pages and its set are known
pub segment_rows : (nand page : List ℕ) (g : Log) (way : List ℕ) (sets : List Bits) (i slot first : ℕ) (ws : List ℕ) → get_or way i 0 ≡ slot
    → (records_at g i).first ≡ first → set_in sets i ≡ ws
    → map (row_at nand page g way i) (places_in sets i) ≡ map (record_in (lifts_at nand slot) page first) (members ws)
segment_rows nand page g way sets i slot first ws slot_is first_is set_is =
    ap (λ (x : ℕ). map (record_in (lifts_at nand x) page (records_at g i).first) (places_in sets i)) slot_is
    ∙ ap (λ (x : ℕ). map (record_in (lifts_at nand slot) page x) (places_in sets i)) first_is
    ∙ ap (λ (x : List ℕ). map (record_in (lifts_at nand slot) page first) (members x)) set_is

-- ---- a closed segment, by its header

pub closed_made : (nand : List ℕ) (slot : ℕ) (page : List ℕ) → page ≡ page_of nand slot 31 → (count buckets : ℕ) → count ≡ number_at page 4 2
    → buckets ≡ number_at page 6 1 → ◌≡◌ {A = Closed} (record { slot = slot; count = count; buckets = buckets }) (closed_in nand slot)
closed_made nand slot page is count buckets count_is buckets_is = rw (count_is, buckets_is, is)

abbrev HeaderRead : List ℕ → Step → Type 0
HeaderRead nand End = Unit {0}
HeaderRead nand Damage = Unit {0}
HeaderRead nand (Pass d) = Unit {0}
HeaderRead nand (Visit s d) = s ≡ closed_in nand s.slot

header_read : (nand : List ℕ) (slots : ℕ) (live : Live) (q : Query) (c : Cursor) → HeaderRead nand (advance_of nand slots live q c)
unfolding header_in
header_read nand slots live q c = step_read (HeaderRead nand) nand slots live q c tt tt tt refl

pub visit_read_lem : (nand : List ℕ) (slots : ℕ) (live : Live) (q : Query) (c d : Cursor) (s : Closed)
    → advance_of nand slots live q c ≡ Visit s d → s ≡ closed_in nand s.slot
visit_read_lem nand slots live q c d s e = rw e at (header_read nand slots live q c)

-- ---- a closed segment as segment i

module _ (nand : List ℕ) (g : Log) (q : Query) (s : Closed) (sound : ClosedSound nand s) (i : ℕ) (inside : i < g.slots)
    (way : List ℕ) (sets : List Bits) (way_is : get_or way i 0 ≡ s.slot) (set_is : set_in sets i ≡ (closed_sweep nand s q).set.words)
    (page : List ℕ) (any : 32 ≤ length page) where
  abbrev places : List ℕ
  places = members (closed_sweep nand s q).set.words

  places_below : Below 320 places
  places_below = below_more s.count 320 places sound.most (closed_below nand s q (closed_sweep nand s q) refl)

  pub found_closed : (nor : List ℕ) → s ≡ closed_in nand s.slot → Found nand nor page g q way sets i
  found_closed nor is =
      let t = lt-ltb i g.slots inside in
      let l = closed_size nand s sound in
      record {
        readable =
            record {
              inside = rw way_is sound.inside;
              recorded = rw (way_is, t) (record { few = omega arith; before = omega arith; after = omega arith; any = any });
              below = rw (set_is, t) places_below;
            };
        closed = λ h. rw way_is (subst (ClosedSound nand) is sound);
        anew = rw (way_is, t) (set_is ∙ ap (λ (x : Closed). (closed_sweep nand x q).set.words) is);
      }

  pub rows_closed : (closed_sweep nand s q).good ≡ true → closed_rows nand s q ≡ some (map (row_at nand page g way i) (places_in sets i))
  rows_closed good =
      let t = lt-ltb i g.slots inside in
      closed_some nand s q (closed_sweep nand s q) refl good
      ∙ ap some (sym (segment_rows nand page g way sets i s.slot 320 _ way_is (rw t) set_is
      ∙ map_below 320 _ _ (tail_unread (closed_lifts nand s) page (closed_lifts nand s)) places places_below
      ∙ closed_rows_are nand s q (closed_sweep nand s q) refl))

-- ---- the open segment

pub record OpenSegment (nand nor page : List ℕ) (g : Log) (q : Query) : Type 0 where
  pub words : length (open_sweep nand nor page g q).set.words ≡ 5
  pub below : Below g.count (members (open_sweep nand nor page g q).set.words)
  pub damage : (open_sweep nand nor page g q).good ≡ false → open_rows nand nor page g q ≡ none
  pub rows : (open_sweep nand nor page g q).good ≡ true → open_rows nand nor page g q
      ≡ some (map (record_in (open_lifts nand g) page (in_full_pages g.count)) (members (open_sweep nand nor page g q).set.words))

module _ (nand nor page : List ℕ) (g : Log) (q : Query) where
  pub open_empty : g.count ≡ 0 → open_sweep nand nor page g q ≡ record { good = true; set = record { words = empty_words } }
  unfolding insert_all
  open_empty e = let z = eq-eqb g.count 0 e in rw z

  pub open_lifts_lem : (g.count ≡ 0 → ⊥) → open_sweep nand nor page g q ≡ swept_from empty_words (open_matches nand nor page g q)
  open_lifts_lem h = let z = ne_eqb g.count 0 h in rw z

  pub open_segment : OpenSegment nand nor page g q
  unfolding insert_all
  open_segment = go (eqb g.count 0) refl
    where
      go : (b : Bool) → eqb g.count 0 ≡ b → OpenSegment nand nor page g q
      go true e =
          let z = eqb-true g.count 0 e in
          record {
            words = rw e refl;
            below = rw (e, members_empty) tt;
            damage = rw e (λ h. never h);
            rows = rw (e, members_empty) (λ h. open_none nand nor page g q z);
          }
      go false e =
          let z = eqb-false g.count 0 e in
          let m = swept_from empty_words (open_matches nand nor page g q) in
          record {
            words = rw e (swept_words (open_matches nand nor page g q));
            below = rw e (open_below nand nor page g q z m refl);
            damage = rw e (open_damage nand nor page g q z m refl);
            rows = rw e (λ h. open_good nand nor page g q z m refl h ∙ ap some (sym (open_rows_are nand nor page g q z m refl)));
          }

  module _ (sound : LogSound nand nor g) (size : length page ≡ 512) (way : List ℕ) (sets : List Bits)
      (way_is : get_or way g.slots 0 ≡ slot_of g.current g.slots)
      (set_is : set_in sets g.slots ≡ (open_sweep nand nor page g q).set.words) where
    abbrev top : ℕ
    top = g.slots

    pub found_open : Found nand nor page g q way sets g.slots
    found_open =
        let t = le-ltb top top (omega arith) in
        record {
          readable =
              record {
                inside = rw way_is (omega (arith, sound.nand_size, open_slot_lem nand nor g sound));
                recorded = rw (way_is, t) (open_recorded nand nor g sound page size);
                below = rw (set_is, t) open_segment.below;
              };
          closed = λ h. absurd (omega arith);
          anew = rw t set_is;
        }

    pub rows_open : (open_sweep nand nor page g q).good ≡ true
        → open_rows nand nor page g q ≡ some (map (row_at nand page g way top) (places_in sets top))
    rows_open good =
        let t = le-ltb top top (omega arith) in
        open_segment.rows good ∙ ap some (sym (segment_rows nand page g way sets top _ _ _ way_is (rw t) set_is))
