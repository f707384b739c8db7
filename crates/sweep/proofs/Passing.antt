-- The entries of a bucket, one by one: those passed and those left are the bucket's, and together they are judged and found as the
-- rules say. Assumes nothing.
use Prim.Native.Nat.{ℕ, ◌+◌, ◌-◌, ◌*◌, ◌≤◌, ◌<◌}
use mathlib.Core.Path.{◌≡◌, refl, sym, ap, ◌∙◌}
use mathlib.Core.Bool.{Bool, true, false, ◌&&◌}
use mathlib.Core.List.{List, [], ◌∷◌}
use native.Mathlib.Omega.{arith}
use lib.Dec.{ltb, eqb}
use lib.ListN.{length}
use borrow.Author.Tests.{ltb-true, lt-ltb, le-ltb}
use Rattle.codec.proofs.Truth.{and_assoc, and_parts, and_true}
use Rattle.bitset.specs.Inner.Words.{insert_in, insert_all}
use Rattle.bitset.specs.declared.Bits.{Bits}
use Rattle.lift.specs.Record.{time_at, code_at}
use Rattle.lift.specs.Rows.{time_in, code_in}
use Rattle.tree.specs.Rules.{Entry}
use Rattle.tree.specs.Reading.{entry_in, entries_from, positions_good}
use Rattle.tree.specs.Search.{within, hits}
use Rattle.tree.specs.Sweep.{records_good}
use Rattle.tree.proofs.Looked.{entries_few, entries_some}
use Rattle.sweep.specs.declared.Range.{Range}
use Rattle.sweep.specs.declared.Records.{Records}
use Rattle.sweep.specs.declared.Sweep.{Sweep}
use Rattle.sweep.specs.Inner.Swept.{none_swept, passing, timely}
use Rattle.sweep.specs.Inner.Turns.{spoilt_empty, codes_of, times_of, with_record, with_entry, with_entries}

empty : (es : List Entry) → length es ≡ 0 → es ≡ []
empty [] h = refl
empty (e ∷ es) h = absurd (omega arith)

abbrev swept : Bool → List ℕ → Sweep
swept g ws = record { good = g; set = record { words = ws } }

-- one record, its time out of the range and in it
module _ (r : Range) (p load recorded time a t : ℕ) (s : Sweep) (a_is : a ≡ recorded) (t_is : t ≡ time) where
  pub record_out : timely r t ≡ false
      → ◌≡◌ {A = Sweep} (record { good = s.good && eqb load a; set = s.set }) (with_record recorded time r p load s)
  record_out f = let g : timely r time ≡ false = rw t_is at f in rw (a_is, g)

  pub record_in_lem : timely r t ≡ true → (more : Bits) → more.words ≡ insert_in s.set.words p
      → ◌≡◌ {A = Sweep} (record { good = s.good && eqb load a; set = more }) (with_record recorded time r p load s)
  record_in_lem f more is =
      let g : timely r time ≡ true = rw t_is at f in
      rw (a_is, g) (ap (swept (s.good && eqb load recorded)) is)

-- one entry, out of the range and in it
module _ (codes times : ℕ → ℕ) (r : Range) (e : Entry) (s : Sweep) (code : ℕ) (is : code ≡ e.load) where
  pub entry_out : within r.k1 r.k2 code ≡ false → s ≡ with_entry codes times r e s
  entry_out f = rw (← is, f)

  pub entry_in_lem : within r.k1 r.k2 code ≡ true → (p recorded time : ℕ) → p ≡ e.position → recorded ≡ codes p → time ≡ times p
      → (q : Sweep) → q ≡ with_record recorded time r p code s → q ≡ with_entry codes times r e s
  entry_in_lem f p recorded time ep er et q eq =
      let c : codes p ≡ codes e.position = ap codes ep in
      let t : times p ≡ times e.position = ap times ep in
      eq ∙ rw (← is, f, er, et, c, t, ep)

-- a bucket's end: a set, or damage
pub found_all : (s all : Sweep) → s ≡ all → s.good ≡ true → ◌≡◌ {A = Sweep} (record { good = true; set = s.set }) (spoilt_empty all)
found_all s all is e = rw (← is, e)

pub damaged_all : (s all : Sweep) → s ≡ all → s.good ≡ false → none_swept ≡ spoilt_empty all
damaged_all s all is e = rw (← is, e)

-- where a record stands
module _ (lifts tail : List ℕ) (g : Records) (p : ℕ) where
  pub early : p < g.first → (code_at lifts (p * 32) ≡ codes_of lifts tail g p) × (time_at lifts (p * 32) ≡ times_of lifts tail g p)
  unfolding code_in time_in
  early h = let t = lt-ltb p g.first h in (rw t, rw t)

  pub late : g.first ≤ p
      → (code_at tail ((p - g.first) * 32) ≡ codes_of lifts tail g p) × (time_at tail ((p - g.first) * 32) ≡ times_of lifts tail g p)
  unfolding code_in time_in
  late h = let t = le-ltb p g.first h in (rw t, rw t)

-- i entries of the bucket's bytes have been passed and have led to s; with those that are left, they lead to `all`
pub record Passed (bucket : List ℕ) (count used : ℕ) (codes times : ℕ → ℕ) (r : Range) (all : Sweep) (i : ℕ) (s : Sweep) : Type 0 where
  pub low : i ≤ 13
  pub left : i + length (entries_from bucket (13 - i) i) ≡ used
  pub good : positions_good count (entries_from bucket (13 - i) i) ≡ true
  pub leads : with_entries codes times r (entries_from bucket (13 - i) i) s ≡ all

module _ (bucket : List ℕ) (count used : ℕ) (codes times : ℕ → ℕ) (r : Range) where
  pub passed_none : (s : Sweep) → used ≡ length (entries_from bucket 13 0) → positions_good count (entries_from bucket 13 0) ≡ true
      → Passed bucket count used codes times r (with_entries codes times r (entries_from bucket 13 0) s) 0 s
  passed_none s u g = record { low = omega arith; left = omega arith; good = g; leads = refl }

  module _ (all : Sweep) (i : ℕ) (s : Sweep) (p : Passed bucket count used codes times r all i s) where
    next : i < used → entries_from bucket (13 - i) i ≡ entry_in bucket i ∷ entries_from bucket (13 - i - 1) (i + 1)
    next h = entries_some bucket (13 - i) i (omega (arith, p.left))

    judged : i < used
        → (ltb (entry_in bucket i).position count ≡ true) × (positions_good count (entries_from bucket (13 - i - 1) (i + 1)) ≡ true)
    unfolding positions_good
    judged h = and_parts (ltb (entry_in bucket i).position count) _ (rw (next h) at p.good)

    -- the position of the next entry is a lift's
    pub position_below : i < used → (i < 13) × ((entry_in bucket i).position < count)
    position_below h = (
      omega (arith, p.low, p.left, entries_few bucket (13 - i) i),
      ltb-true (entry_in bucket i).position count (judged h).0,
    )

    pub passed_more : i < used → Passed bucket count used codes times r all (i + 1) (with_entry codes times r (entry_in bucket i) s)
    unfolding with_entries
    passed_more h =
        let d : 13 - (i + 1) ≡ 13 - i - 1 = omega arith in
        let n = next h in
        record {
          low = omega (arith, (position_below h).0);
          left = rw d (omega (arith, rw n at p.left));
          good = rw d (judged h).1;
          leads = rw d (rw n at p.leads);
        }

    pub passed_all : used ≤ i → s ≡ all
    unfolding with_entries
    passed_all h = rw none_left at p.leads
      where
        none_left : entries_from bucket (13 - i) i ≡ []
        none_left = empty (entries_from bucket (13 - i) i) (omega (arith, p.left))

-- all entries together

module _ (codes times : ℕ → ℕ) (r : Range) where
  abbrev fits : ℕ → Bool
  fits p = timely r (times p)

  abbrev pub together : List Entry → Sweep → Sweep
  together es s =
      swept (s.good && records_good codes r.k1 r.k2 es) (insert_all s.set.words (passing fits (hits r.k1 r.k2 es)))

  pub entries_are : (es : List Entry) (s : Sweep) → with_entries codes times r es s ≡ together es s
  unfolding with_entries records_good insert_all hits
  entries_are [] s = ap (λ (g : Bool). swept g s.set.words) (sym (and_true s.good))
  entries_are (e ∷ es) s = go (within r.k1 r.k2 e.load) refl (fits e.position) refl (λ u. entries_are es u)
    where
      alike : Bool
      alike = eqb e.load (codes e.position)

      go : (q : Bool) → within r.k1 r.k2 e.load ≡ q → (f : Bool) → fits e.position ≡ f
          → ((u : Sweep) → with_entries codes times r es u ≡ together es u)
          → with_entries codes times r (e ∷ es) s ≡ together (e ∷ es) s
      go true a true b ih =
          rw (a, b)
          (ih (swept (s.good && alike) (insert_in s.set.words e.position))
          ∙ ap (λ (g : Bool). swept g (insert_all (insert_in s.set.words e.position) (passing fits (hits r.k1 r.k2 es))))
          (and_assoc s.good alike (records_good codes r.k1 r.k2 es)))
      go true a false b ih =
          rw (a, b)
          (ih (swept (s.good && alike) s.set.words)
          ∙ ap (λ (g : Bool). swept g (insert_all s.set.words (passing fits (hits r.k1 r.k2 es))))
          (and_assoc s.good alike (records_good codes r.k1 r.k2 es)))
      go false a f b ih = rw a (ih s)
