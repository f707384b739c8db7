-- Gathering from segment to segment: each turn puts one segment below those in hand, and all rows stay the same. Assumes nothing.
use mathlib.Core.Path.{◌≡◌, refl, sym, ap, ◌∙◌}
use mathlib.Core.Option.{Option, none, some}
use mathlib.Core.List.{List, [], ◌++◌, map, append_assoc}
use Prim.Native.Nat.{ℕ, zero, suc, ◌+◌, ◌-◌, ◌*◌, ◌≤◌, ◌<◌}
use native.Mathlib.Decide.{dec_lt}
use native.Mathlib.Omega.{arith}
use lib.ListN.{length, get_or, length-set}
use lib.Seq.{get_or-set_same, get_or-set_other}
use Rattle.bitset.specs.declared.Bits.{Bits}
use Rattle.sweep.specs.declared.Sweep.{Sweep}
use Rattle.skiplist.specs.Skip.{Live, serials_from}
use Rattle.visit.specs.declared.Closed.{Closed}
use Rattle.visit.specs.declared.Log.{Log}
use Rattle.visit.specs.declared.Query.{Query}
use Rattle.visit.specs.Visit.{closed_rows}
use Rattle.visit.specs.Inner.Sound.{ClosedSound}
use Rattle.walk.specs.declared.Cursor.{Cursor}
use Rattle.walk.specs.Inner.Sound.{Sound}
use Rattle.found.specs.Inner.Turns.{Onward}
use Rattle.found.specs.Found.{join_rows}
use Rattle.found.specs.Inner.Slots.{slots_below, serial_in}
use Rattle.found.proofs.All.{join_none}
use Rattle.found.proofs.Most.{slots_most_lem, slot_left, serial_read}
use Rattle.whole_log.specs.Inner.Held.{rows_on, no_set, set_in, places_in, row_at, rows_held, closed_sweep, Room, Found, Held}
use Rattle.whole_log.specs.Inner.Turns.{Left, after, Puts, Whole, Goes}
use Rattle.whole_log.proofs.Segments.{segment_rows, visit_read_lem, found_closed, rows_closed}

-- ---- segments from one on that stay as they are

pub record Kept (g : Log) (way : List ℕ) (sets : List Bits) (new_way : List ℕ) (new_sets : List Bits) (low : ℕ) : Type 0 where
  pub slot_is : (j : ℕ) → low ≤ j → j ≤ g.slots → get_or new_way j 0 ≡ get_or way j 0
  pub set_is : (j : ℕ) → low ≤ j → j ≤ g.slots → set_in new_sets j ≡ set_in sets j

rows_same : (row new_row : ℕ → ℕ → List ℕ) (places new_places : ℕ → List ℕ) (n i : ℕ)
    → ((j : ℕ) → i ≤ j → j < i + n → map (new_row j) (new_places j) ≡ map (row j) (places j))
    → rows_on new_row new_places i n ≡ rows_on row places i n
unfolding rows_on
rows_same row new_row places new_places zero i e = refl
rows_same row new_row places new_places (suc n) i e =
    let rest = rows_same row new_row places new_places n (suc i) (λ j a b. e j (omega arith) (omega arith)) in
    rw (e i (omega arith) (omega arith), rest)

module _ (nand page : List ℕ) (g : Log) (way : List ℕ) (sets : List Bits) where
  -- the rows of the lowest segment, and of those above it
  pub rows_first : (i : ℕ) → i ≤ g.slots → rows_held nand page g way sets i
      ≡ map (row_at nand page g way i) (places_in sets i) ++ rows_held nand page g way sets (suc i)
  unfolding rows_on
  rows_first i h =
      let n : g.slots + 1 - i ≡ suc (g.slots + 1 - suc i) = omega arith in
      rw n

  -- there is nothing above the open one
  pub rows_last : rows_held nand page g way sets g.slots ≡ map (row_at nand page g way g.slots) (places_in sets g.slots) ++ []
  unfolding rows_on
  rows_last =
      let n : g.slots + 1 - g.slots ≡ 1 = omega arith in
      rw n

  module _ (new_way : List ℕ) (new_sets : List Bits) (low : ℕ) (kept : Kept g way sets new_way new_sets low) where
    pub rows_kept : rows_held nand page g new_way new_sets low ≡ rows_held nand page g way sets low
    rows_kept =
        rows_same (row_at nand page g way) (row_at nand page g new_way) (places_in sets) (places_in new_sets) (g.slots + 1 - low) low
        (λ j a b. segment_rows nand page g new_way new_sets j _ _ _ (kept.slot_is j a (omega arith)) refl (kept.set_is j a (omega arith)))

    pub found_kept : (nor : List ℕ) (q : Query) (j : ℕ) → low ≤ j → j ≤ g.slots → Found nand nor page g q way sets j
        → Found nand nor page g q new_way new_sets j
    found_kept nor q j a b f =
        let e = kept.slot_is j a b in
        let s = kept.set_is j a b in
        record {
          readable =
              record {
                inside = rw e f.readable.inside;
                recorded = rw e f.readable.recorded;
                below = rw s f.readable.below;
              };
          closed = λ h. rw e (f.closed h);
          anew = rw (e, s) f.anew;
        }

-- ---- one segment put into its place

module _ (g : Log) (way : List ℕ) (sets : List Bits) (room : Room g way sets) (i : ℕ) (inside : i ≤ g.slots) (slot : ℕ) (m : Sweep)
    (new_way : List ℕ) (new_sets : List Bits) (puts : Puts m i slot way sets new_way new_sets) where
  pub slot_put : get_or new_way i 0 ≡ slot
  slot_put = rw puts.way_is (get_or-set_same way i slot 0 (omega (arith, room.ways)))

  pub set_put : set_in new_sets i ≡ m.set.words
  set_put = ap (λ (b : Bits). b.words) (ap (λ (s : List Bits). get_or s i no_set) puts.sets_are ∙ get_or-set_same sets i m.set no_set (omega (arith, room.words)))

  -- those above it are kept
  kept_above : Kept g way sets new_way new_sets (suc i)
  kept_above =
      record {
        slot_is = λ j a b. rw puts.way_is (get_or-set_other way i j slot 0 (λ e. omega arith));
        set_is = λ j a b. ap (λ (b : Bits). b.words)
            (ap (λ (s : List Bits). get_or s j no_set) puts.sets_are ∙ get_or-set_other sets i j m.set no_set (λ e. omega arith));
      }

join_assoc : (o : Option (List (List ℕ))) (a b : List (List ℕ)) → join_rows (join_rows o (some a)) (some b) ≡ join_rows o (some (a ++ b))
join_assoc none a b = refl
join_assoc (some rows) a b = ap some (append_assoc rows a b)

-- a closed segment that is put below: it can be searched, its slot fits two bytes, and there is a place for it
pub record Searchable (nand : List ℕ) (s : Closed) (low : ℕ) : Type 0 where
  pub sound : ClosedSound nand s
  pub slot_most : s.slot < 65536
  pub place : 1 ≤ low

-- ---- one turn, from where the walk and the segments in hand stand

module _ (nand : List ℕ) (g : Log) (q : Query) (size : length nand ≡ g.slots * 16384) (way : List ℕ) (sets : List Bits) (room : Room g way sets)
    (at : Cursor) (low : ℕ) (low_most : low ≤ g.slots) (left : Left nand g at low) where
  abbrev live : Live
  live = serials_from g.oldest

  -- older rows, with those of the segments in hand
  abbrev joined : List ℕ → Option (List (List ℕ)) → Option (List (List ℕ))
  joined page older = join_rows older (some (rows_held nand page g way sets low))

  module _ (nor page : List ℕ) (o : Option (List (List ℕ))) (i : Goes nand nor page g q o way sets at low) where
    -- no segment is left
    gather_end : after nand g q at ≡ some [] → Whole nand nor page g q o way sets low
    gather_end e = record { held = i.held; rows = i.rows ∙ ap (joined page) e }

    gather_damage : after nand g q at ≡ none → o ≡ none
    gather_damage e = i.rows ∙ ap (joined page) e

  -- ---- a segment that is searched

  module _ (s : Closed) (d : Cursor) (v : Onward nand g.slots live q at s d) where
    visit_slot : s.slot < g.slots
    visit_slot = omega (arith, v.closed.inside)

    -- there is a place for it
    visit_left : suc (slots_below (serial_in nand) g.slots d.before) ≤ low
    visit_left =
        let falls = v.falls in
        let is = rw v.steps at (serial_read nand g.slots live q v.stood) in
        let l = slot_left (serial_in nand) g.slots s.slot d.before at.before visit_slot (omega arith) (omega arith) in
        omega (arith, left)

    pub visit_searchable : Searchable nand s low
    visit_searchable =
        record { sound = v.closed; slot_most = omega (arith, visit_slot, room.slots_most_lem); place = omega (arith, visit_left) }

    module _ (i : ℕ) (i_is : suc i ≡ low) where
      inside : i < g.slots
      inside = omega arith

      module _ (new_way : List ℕ) (new_sets : List Bits) (puts : Puts (closed_sweep nand s q) i s.slot way sets new_way new_sets) where
        kept : Kept g way sets new_way new_sets (suc i)
        kept = kept_above g way sets room i (omega arith) s.slot (closed_sweep nand s q) new_way new_sets puts

        slot_is : get_or new_way i 0 ≡ s.slot
        slot_is = slot_put g way sets room i (omega arith) s.slot (closed_sweep nand s q) new_way new_sets puts

        set_is : set_in new_sets i ≡ (closed_sweep nand s q).set.words
        set_is = set_put g way sets room i (omega arith) s.slot (closed_sweep nand s q) new_way new_sets puts

        -- segments in hand above it
        module _ (nor page : List ℕ) (held : Held nand nor page g q way sets (suc i)) where
          any : 32 ≤ length page
          any = (held.each g.slots (omega arith) (omega arith)).readable.recorded.any

          lowest : Found nand nor page g q new_way new_sets i
          lowest =
              found_closed nand g q s v.closed i inside new_way new_sets slot_is set_is page any nor
              (visit_read_lem nand g.slots live q v.stood d s v.steps)

          held_more : Held nand nor page g q new_way new_sets i
          held_more = record { low_most = omega arith; each = λ j a b. go j a b (dec_lt i j) }
            where
              go : (j : ℕ) → i ≤ j → j ≤ g.slots → Dec (i < j) → Found nand nor page g q new_way new_sets j
              go j a b (yes l) = found_kept nand page g way sets new_way new_sets (suc i) kept nor q j l b (held.each j l b)
              go j a b (no l) = let same : j ≡ i = omega arith in rw same lowest

          rows_more : (older : Option (List (List ℕ)))
              → join_rows (join_rows older (closed_rows nand s q)) (some (rows_held nand page g way sets (suc i)))
              ≡ join_rows older (some (rows_held nand page g new_way new_sets i))
          rows_more older =
              ap (λ x. join_rows (join_rows older x) (some (rows_held nand page g way sets (suc i))))
              (rows_closed nand g q s v.closed i inside new_way new_sets slot_is set_is page any puts.good)
              ∙ join_assoc older _ _
              ∙ ap (λ x. join_rows older (some x))
              (ap (λ x. map (row_at nand page g new_way i) (places_in new_sets i) ++ x)
              (sym (rows_kept nand page g way sets new_way new_sets (suc i) kept))
              ∙ sym (rows_first nand page g new_way new_sets i (omega arith)))

        gather_visit : (nor page : List ℕ) (o : Option (List (List ℕ))) → Goes nand nor page g q o way sets at low
            → Goes nand nor page g q o new_way new_sets d i
        gather_visit nor page o j =
            let held : Held nand nor page g q way sets (suc i) = rw i_is j.held in
            record {
              held = held_more nor page held;
              rows = rw i_is (j.rows ∙ ap (joined page) v.rows) ∙ rows_more nor page held (after nand g q d);
            }

-- ---- on the way, from a cursor that the open segment's rows stand behind

module _ (nand : List ℕ) (g : Log) (q : Query) (way₀ : List ℕ) (sets₀ : List Bits) (c : Cursor) where
  pub record Going (way : List ℕ) (sets : List Bits) (at : Cursor) (low : ℕ) : Type 0 where
    pub room : Room g way sets
    pub sound : Sound g.slots at
    pub low_most : low ≤ g.slots
    pub left : Left nand g at low
    pub leads : (nor page : List ℕ) (o : Option (List (List ℕ))) → Goes nand nor page g q o way₀ sets₀ c g.slots
        → Goes nand nor page g q o way sets at low

  pub going_begun : Room g way₀ sets₀ → Sound g.slots c → Going way₀ sets₀ c g.slots
  going_begun room sound =
      record {
        room = room;
        sound = sound;
        low_most = omega arith;
        left = slots_most_lem (serial_in nand) g.slots c.before;
        leads = λ nor page o j. j;
      }

  module _ (size : length nand ≡ g.slots * 16384) (way : List ℕ) (sets : List Bits) (at : Cursor) (low : ℕ) (i : Going way sets at low) where
    -- what it comes to: no segment is left, or damage is met
    pub going_over : after nand g q at ≡ some [] → (nor page : List ℕ) (o : Option (List (List ℕ)))
        → Goes nand nor page g q o way₀ sets₀ c g.slots → Whole nand nor page g q o way sets low
    going_over e nor page o j =
        gather_end nand g q size way sets i.room at low i.low_most i.left nor page o (i.leads nor page o j) e

    pub going_spoilt : after nand g q at ≡ none → (nor page : List ℕ) (o : Option (List (List ℕ)))
        → Goes nand nor page g q o way₀ sets₀ c g.slots → o ≡ none
    going_spoilt e nor page o j =
        gather_damage nand g q size way sets i.room at low i.low_most i.left nor page o (i.leads nor page o j) e

    module _ (s : Closed) (d : Cursor) (v : Onward nand g.slots (serials_from g.oldest) q at s d) where
      pub going_searchable : Searchable nand s low
      going_searchable = visit_searchable nand g q size way sets i.room at low i.low_most i.left s d v

      pub going_damage : closed_rows nand s q ≡ none → (nor page : List ℕ) (o : Option (List (List ℕ)))
          → Goes nand nor page g q o way₀ sets₀ c g.slots → o ≡ none
      going_damage e =
          going_spoilt (v.rows ∙ ap (join_rows (after nand g q d)) e ∙ join_none (after nand g q d))

      pub going_on : (new_way : List ℕ) (new_sets : List Bits) → Puts (closed_sweep nand s q) (low - 1) s.slot way sets new_way new_sets
          → Going new_way new_sets d (low - 1)
      going_on new_way new_sets puts =
          let place = going_searchable.place in
          let i_is : suc (low - 1) ≡ low = omega arith in
          record {
            room = record {
              slots_most_lem = i.room.slots_most_lem;
              ways = omega (arith, i.room.ways, ap length puts.way_is, length-set way (low - 1) s.slot);
              words = omega (arith, i.room.words, ap length puts.sets_are, length-set sets (low - 1) (closed_sweep nand s q).set);
            };
            sound = v.sound;
            low_most = omega (arith, i.low_most);
            left = omega (arith, visit_left nand g q size way sets i.room at low i.low_most i.left s d v);
            leads = λ nor page o j.
                gather_visit nand g q size way sets i.room at low i.low_most i.left s d v (low - 1) i_is new_way new_sets puts nor page o
                (i.leads nor page o j);
          }
