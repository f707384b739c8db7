-- From one closed segment to the next: each step as the code makes it, and what it leads to, with a serial that falls. Assumes
-- nothing.
use mathlib.Core.Path.{◌≡◌, refl, sym, ◌∙◌}
use mathlib.Core.Bool.{Bool, true, false, cond, not, ◌||◌}
use mathlib.Core.List.{List}
use Prim.Native.Nat.{ℕ, ◌+◌, ◌*◌, ◌≤◌, ◌<◌}
use native.Mathlib.Omega.{arith}
use lib.Dec.{ltb}
use lib.ListN.{length, get_or}
use borrow.Author.Tests.{not-true, not-false, lt-ltb, le-ltb}
use Rattle.codec.proofs.Truth.{or_left, or_right}
use Rattle.codec.specs.Number.{number_at}
use Rattle.flash.specs.Chip.{page_of, pages_of}
use Rattle.form.specs.declared.Form.TheVariants.{New}
use Rattle.bloom.specs.Bloom.{may_hold}
use Rattle.bloom.specs.Pages.{section_count, sections_in}
use Rattle.bloom.specs.Tried.{pages_tried}
use Rattle.bloom.proofs.BitsTried.{tried_most}
use Rattle.skiplist.specs.declared.Pointer.{Pointer}
use Rattle.skiplist.specs.Skip.{Live, none, is_live, serials_from}
use Rattle.skiplist.specs.PointerBytes.{pointers_at}
use Rattle.header.specs.declared.Header.{Header}
use Rattle.header.specs.Header.{header_in, header_good}
use Rattle.header.proofs.HeaderFacts.{header_facts, good_slots}
use Rattle.visit.specs.declared.Query.{Query}
use Rattle.visit.specs.Inner.Sound.{ClosedSound}
use Rattle.walk.specs.declared.Cursor.{Cursor}
use Rattle.walk.specs.declared.Seen.{Seen}
use Rattle.walk.specs.declared.Seen.TheVariants.{Spoilt, Passed, Searched}
use Rattle.walk.specs.declared.Step.{Step}
use Rattle.walk.specs.declared.Step.TheVariants.{End, Damage, Pass, Visit}
use Rattle.walk.specs.Seek.{header_at}
use Rattle.walk.specs.Advance.{span_misses, sections_at, is_passed, bloom_read, cursor_after, closed_of, advance_of}
use Rattle.walk.specs.Inner.Seen.{seen_at, bloom_seen, step_of, bloom_of}
use Rattle.walk.specs.Inner.Sound.{Sound}
use Rattle.walk.proofs.Hops.{header_good_lem, live_inside}

-- ---- whether a segment is passed over

module _ (nand : List ℕ) (slot : ℕ) (page : List ℕ) (q : Query) (slots before low high : ℕ) (high_is : high ≡ number_at page 36 4)
    (low_is : low ≡ number_at page 32 4) where
  abbrev seen : Header
  seen = header_in New page slots before

  -- and the Bloom pages that were read for it
  pub record Passes (passed : Bool) (bloom : ℕ) : Type 0 where
    pub passed_is : passed ≡ is_passed nand slot seen q
    pub bloom_is : bloom ≡ bloom_read nand slot seen q

  pub passed_span : (ltb high q.k1 || ltb q.k2 low) ≡ true → Passes true 0
  unfolding is_passed bloom_read header_in
  passed_span e = record { passed_is = rw (← high_is, ← low_is, e); bloom_is = rw (← high_is, ← low_is, e) }

  pub passed_not : (ltb high q.k1 || ltb q.k2 low) ≡ false → q.k1 < q.k2 → Passes false 0
  unfolding is_passed bloom_read header_in
  passed_not e l =
      let k = lt-ltb q.k1 q.k2 l in
      record { passed_is = rw (← high_is, ← low_is, e, k); bloom_is = rw (← high_is, ← low_is, e, k) }

  pub passed_bloom : (ltb high q.k1 || ltb q.k2 low) ≡ false → q.k2 ≤ q.k1
      → (pages : List ℕ) → pages ≡ pages_of nand slot 29 2 → (count : ℕ) → count ≡ number_at page 4 2 → (held : Bool) (tried : ℕ)
      → held ≡ may_hold (sections_in pages (section_count count)) q.k1 → tried ≡ pages_tried (sections_in pages (section_count count)) q.k1
      → Passes (not held) tried
  unfolding is_passed bloom_read header_in
  passed_bloom e l pages p count n held tried is are =
      let k = le-ltb q.k1 q.k2 l in
      record {
        passed_is = rw (← high_is, ← low_is, e, k, ← p, ← n, is);
        bloom_is = rw (← high_is, ← low_is, e, k, ← p, ← n, are);
      }

-- ---- a segment as it is seen

module _ (nand : List ℕ) (slots : ℕ) (q : Query) (slot before : ℕ) (page : List ℕ) (page_is : page ≡ page_of nand slot 31) (good : Bool)
    (good_is : good ≡ header_good New page slots before) where
  abbrev shown : Header
  shown = header_in New page slots before

  -- what is handed on of it
  pub record Shows (s : Seen) : Type 0 where
    pub step_is : step_of slot s ≡ seen_at nand slots q slot before
    pub bloom_is : bloom_of s ≡ bloom_seen nand slots q slot before

  pub seen_spoilt : not good ≡ true → Shows Spoilt
  unfolding seen_at header_in
  seen_spoilt e =
      let f = not-true good e in
      record { step_is = rw (← page_is, ← good_is, e); bloom_is = rw (← page_is, ← good_is, f) }

  module _ (sound : not good ≡ false) where
    pub seen_count : (1 ≤ number_at page 4 2) × (number_at page 4 2 ≤ 320)
    unfolding header_in
    seen_count = let f = (header_facts New page slots before (sym good_is ∙ not-false good sound)).counts in (f.some, f.most)

    module _ (passed : Bool) (bloom : ℕ) (passed_is : passed ≡ is_passed nand slot shown q) (bloom_is : bloom ≡ bloom_read nand slot shown q)
        (first : Pointer) (first_is : first ≡ get_or (pointers_at New page 40) 0 none) (start serial : ℕ)
        (start_is : start ≡ number_at page 16 8) (serial_is : serial ≡ number_at page 0 4) where
      abbrev last : Bool
      last = ltb start q.t1

      read_is : bloom ≡ bloom_seen nand slots q slot before
      unfolding header_in
      read_is = let g = not-false good sound in bloom_is ∙ rw (← page_is, ← good_is, g)

      pub seen_passed : passed ≡ true → Shows (Passed last first.slot first.serial first.time serial bloom)
      unfolding seen_at header_in
      seen_passed e =
          let p = sym passed_is ∙ e in
          record { step_is = rw (← page_is, p, ← good_is, sound, ← first_is, start_is, serial_is); bloom_is = read_is }

      pub seen_searched : passed ≡ false → (count buckets : ℕ) → count ≡ number_at page 4 2 → buckets ≡ number_at page 6 1
          → Shows (Searched count buckets last first.slot first.serial first.time serial bloom)
      unfolding seen_at header_in
      seen_searched e count buckets count_is buckets_is =
          let p = sym passed_is ∙ e in
          record {
            step_is = rw (← page_is, p, ← good_is, sound, ← first_is, start_is, serial_is, count_is, buckets_is);
            bloom_is = read_is;
          }

-- ---- one step, from what is seen

module _ (nand : List ℕ) (slots oldest : ℕ) (q : Query) (c : Cursor) (end : Bool)
    (end_is : end ≡ (c.last || not (is_live c.next (serials_from oldest)))) where
  pub advance_end : end ≡ true → End ≡ advance_of nand slots (serials_from oldest) q c
  unfolding advance_of
  advance_end e = let f = sym end_is ∙ e in rw f

  module _ (onward : end ≡ false) where
    pub advance_inside : length nand ≡ slots * 16384 → Sound slots c → c.next.slot * 16384 + 16384 ≤ length nand
    advance_inside size sound =
        let f = sym end_is ∙ onward in
        live_inside (length nand) slots (serials_from oldest) c.next size (sound (or_left c.last _ f))
        (not-false _ (or_right c.last _ f))

    pub advance_on : (seen : Seen) (step : Step) → step ≡ step_of c.next.slot seen
        → step_of c.next.slot seen ≡ seen_at nand slots q c.next.slot c.before → step ≡ advance_of nand slots (serials_from oldest) q c
    unfolding advance_of seen_at
    advance_on seen step made is = let f = sym end_is ∙ onward in rw f (made ∙ is)

-- ---- what a step leads to

-- the serial falls, and the pointer stays in the slots
pub record CursorFacts (slots before : ℕ) (d : Cursor) : Type 0 where
  pub sound : Sound slots d
  pub falls : d.before < before

abbrev pub StepFacts : List ℕ → ℕ → ℕ → Step → Type 0
StepFacts nand slots before End = Unit {0}
StepFacts nand slots before Damage = Unit {0}
StepFacts nand slots before (Pass d) = CursorFacts slots before d
StepFacts nand slots before (Visit s d) = ClosedSound nand s × CursorFacts slots before d

module _ (nand : List ℕ) (slots : ℕ) (live : Live) (q : Query) (c : Cursor) (size : length nand ≡ slots * 16384)
    (sound : Sound slots c) where
  abbrev header : Header
  header = header_at live.form nand slots c.next c.before

  after_facts : header.good ≡ true → CursorFacts slots c.before (cursor_after live.form header q)
  after_facts good =
      let f = header_good_lem live.form nand slots c.before c.next header refl good in
      record { sound = λ e. good_slots slots header.next 0 f.pointers; falls = f.serial_below }

  pub step_facts : StepFacts nand slots c.before (advance_of nand slots live q c)
  unfolding advance_of
  step_facts = go (c.last || not (is_live c.next live)) refl header.good refl (is_passed nand c.next.slot header q)
    where
      go : (e : Bool) → (c.last || not (is_live c.next live)) ≡ e → (b : Bool) → header.good ≡ b → (p : Bool)
          → StepFacts nand slots c.before (cond e End
          (cond (not header.good) Damage (cond p (Pass (cursor_after live.form header q))
          (Visit (closed_of c.next.slot header) (cursor_after live.form header q)))))
      go true e b h p = tt
      go false e false h p = rw h tt
      go false e true h true = rw h (after_facts h)
      go false e true h false =
          let f = (header_good_lem live.form nand slots c.before c.next header refl h).counts in
          let i = live_inside (length nand) slots live c.next size (sound (or_left c.last _ e))
          (not-false _ (or_right c.last _ e)) in
          rw h (record { inside = i; most = f.most; buckets_most_lem = f.buckets_most_lem }, after_facts h)

-- a segment passed over or searched has a header without damage
abbrev pub Went : Step → Type 0
Went End = ⊥
Went Damage = ⊥
Went (Pass d) = Unit {0}
Went (Visit s d) = Unit {0}

pub went_good : (nand : List ℕ) (slots : ℕ) (live : Live) (q : Query) (c : Cursor) → Went (advance_of nand slots live q c)
    → (header_at live.form nand slots c.next c.before).good ≡ true
unfolding advance_of
went_good nand slots live q c w = go (c.last || not (is_live c.next live)) h.good refl w
  where
    h : Header
    h = header_at live.form nand slots c.next c.before

    go : (e b : Bool) → h.good ≡ b → Went (cond e End (cond (not b) Damage (cond (is_passed nand c.next.slot h q)
        (Pass (cursor_after live.form h q)) (Visit (closed_of c.next.slot h) (cursor_after live.form h q)))))
        → h.good ≡ true
    go true b f w = absurd w
    go false false f w = absurd w
    go false true f w = f

-- so the Bloom pages that are seen there are the definition's
pub bloom_at_lem : (nand : List ℕ) (slots oldest : ℕ) (q : Query) (c : Cursor) → Went (advance_of nand slots (serials_from oldest) q c)
    → bloom_seen nand slots q c.next.slot c.before ≡ bloom_read nand c.next.slot (header_at New nand slots c.next c.before) q
bloom_at_lem nand slots oldest q c w = let g = went_good nand slots (serials_from oldest) q c w in rw g

-- no more Bloom pages than there are, whatever the chips hold
pub bloom_most : (nand : List ℕ) (slot : ℕ) (h : Header) (q : Query) → 1 ≤ h.count → h.count ≤ 320 → bloom_read nand slot h q ≤ 2
unfolding bloom_read
bloom_most nand slot h q some most = go (span_misses h q || ltb q.k1 q.k2)
  where
    go : (b : Bool) → cond b 0 (pages_tried (sections_at nand slot h) q.k1) ≤ 2
    go true = omega arith
    go false = tried_most (pages_of nand slot 29 2) (section_count h.count) q.k1 (omega arith) (omega arith)
