-- The first free lift that fits, from segment to segment: the look through each leads to the look through all. Assumes nothing.
use Rattle.std.specs.Prelude.{IfSome, Some, None}
use Rattle.std.specs.Prelude.{Option as Maybe}
use mathlib.Core.Path.{◌≡◌, refl, sym, ap, ap₂, ◌∙◌}
use mathlib.Core.Bool.{Bool, true, false, cond}
use mathlib.Core.Option.{Option, none, some}
use mathlib.Core.List.{List, [], ◌++◌, map, append_assoc, append-nil}
use Prim.Native.Nat.{ℕ, ◌+◌, ◌-◌, ◌≤◌, ◌<◌}
use native.Mathlib.Decide.{ℕ_discrete}
use native.Mathlib.Omega.{arith}
use lib.ListN.{length, get_or, set, length-set}
use lib.Seq.{get_or-set_same, get_or-set_other}
use Rattle.bitset.specs.declared.Bits.{Bits}
use Rattle.bitset.specs.Inner.Words.{members, Below}
use Rattle.lift.proofs.Rows.{time_of_record, member_of_record}
use Rattle.sweep.specs.declared.Records.{Records}
use Rattle.visit.specs.declared.Log.{Log}
use Rattle.visit.proofs.Emptying.{recorded_at}
use Rattle.whole_log.specs.Inner.Held.{rows_on, no_set, set_in, places_in, lifts_at, records_at, row_at, Room, Readable}
use Rattle.joining.specs.declared.look.Fit.{Fit}
use Rattle.joining.specs.declared.look.Look.{Look}
use Rattle.joining.specs.declared.look.Sought.{Sought}
use Rattle.joining.specs.declared.look.Taken.{Taken}
use Rattle.joining.specs.Inner.Looking.{fit_of, fit_row, fit_in, ends, taken_of, left_of, Looked}
use Rattle.joining.specs.Inner.Passing.{free_from, ReadableFrom, taken_row, TakenFrom, Takes}
use Rattle.joining.proofs.Looks.{left_append, taken_append, mapped, left_rows, taken_rows, ends_rows, left_below, taken_below}
use Rattle.joining.proofs.Segments.{rows_step, rows_split, rows_same}

module _ (nand page : List ℕ) (g : Log) (way : List ℕ) (s : Sought) where
  abbrev row : ℕ → ℕ → List ℕ
  row = row_at nand page g way

  -- what the lift at a place of segment i is
  abbrev pub fit_at : ℕ → ℕ → Fit
  fit_at i = fit_in s (lifts_at nand (get_or way i 0)) page (records_at g i).first

  abbrev left_in : List (List ℕ) → List (List ℕ)
  left_in = left_of s.rising (fit_row s)

  abbrev taken_in : List (List ℕ) → Option (List ℕ)
  taken_in = taken_of s.rising (fit_row s)

  -- ---- one segment

  module _ (free : List Bits) (i : ℕ) (read : Readable nand page g way free i) where
    same_fit : (p : ℕ) → p < (records_at g i).count → fit_row s (row i p) ≡ fit_at i p
    same_fit p h =
        let r = recorded_at _ page (records_at g i) p read.recorded h in
        ap₂ (fit_of s) (time_of_record _ page _ p r.0 r.1) (member_of_record _ page _ p r.0 r.1)

    pub segment_left : left_in (map (row i) (places_in free i)) ≡ map (row i) (left_of s.rising (fit_at i) (places_in free i))
    segment_left = left_rows s.rising _ (row i) (fit_row s) (fit_at i) same_fit (places_in free i) read.below

    pub segment_taken : taken_in (map (row i) (places_in free i)) ≡ mapped (row i) (taken_of s.rising (fit_at i) (places_in free i))
    segment_taken = taken_rows s.rising _ (row i) (fit_row s) (fit_at i) same_fit (places_in free i) read.below

    pub segment_ends : ends s.rising (fit_row s) (map (row i) (places_in free i)) ≡ ends s.rising (fit_at i) (places_in free i)
    segment_ends = ends_rows s.rising _ (row i) (fit_row s) (fit_at i) same_fit (places_in free i) read.below

  -- a look through the set of segment i, where its slot, its records and its set were read
  pub segment_looked : (free : List Bits) (i : ℕ) (lifts : List ℕ) → lifts ≡ lifts_at nand (get_or way i 0) → (at : Records) → at ≡ records_at g i → (set : Bits)
      → set.words ≡ set_in free i → (k : Look)
      → Looked s.rising (fit_in s lifts page at.first) (left_of s.rising (fit_in s lifts page at.first) (members set.words))
      (taken_of s.rising (fit_in s lifts page at.first) (members set.words)) (ends s.rising (fit_in s lifts page at.first) (members set.words)) k
      → Looked s.rising (fit_at i) (left_of s.rising (fit_at i) (places_in free i)) (taken_of s.rising (fit_at i) (places_in free i))
      (ends s.rising (fit_at i) (places_in free i)) k
  segment_looked free i lifts e at d set f k l = rw (e, d, f) at l

  -- ---- from segment to segment

  module _ (first : List Bits) (from : ℕ) where
    abbrev all : ℕ → List (List ℕ)
    all i = free_from nand page g way first i

    -- the segments before i are looked through, the others are as they were
    pub record Taking (free : List Bits) (i : ℕ) : Type 0 where
      pub least : from ≤ i
      pub most : i ≤ g.slots + 1
      pub long : length free ≡ length first
      pub same : (k : ℕ) → i ≤ k → k ≤ g.slots → set_in free k ≡ set_in first k
      pub each : (k : ℕ) → from ≤ k → k ≤ g.slots → Readable nand page g way free k
      pub left_is : left_in (all from) ≡ rows_on row (places_in free) from (i - from) ++ left_in (all i)
      pub taken_is : taken_in (all from) ≡ taken_in (all i)

    pub taking_begun : ReadableFrom nand page g way first from → Taking first from
    unfolding rows_on
    taking_begun r =
        let z : from - from ≡ 0 = omega arith in
        record {
          least = omega arith;
          most = omega (arith, r.from_most);
          long = refl;
          same = λ k a b. refl;
          each = r.each;
          left_is = rw z;
          taken_is = refl;
        }

    -- all are looked through
    pub taking_over : (free : List Bits) (i : ℕ) → Taking free i → g.slots < i → ReadableFrom nand page g way first from
        → Takes nand page g way s first free from None
    unfolding rows_on left_of taken_of
    taking_over free i t h r =
        let z : g.slots + 1 - i ≡ 0 = omega arith in
        let e : i - from ≡ g.slots + 1 - from = omega (arith, t.most) in
        record {
          taken_is = sym (rw z at t.taken_is);
          left_is = sym (rw e at (rw z at t.left_is) ∙ append-nil (free_from nand page g way free from));
          readable = record { from_most = r.from_most; each = t.each };
          place = tt;
        }

    -- segment i, of which these places are left
    module _ (room : Room g way first) (free : List Bits) (i : ℕ) (t : Taking free i) (h : i ≤ g.slots) (b : Bits)
        (left : members b.words ≡ left_of s.rising (fit_at i) (places_in free i)) where
      abbrev new : List Bits
      new = set free i b

      fits : i < length free
      fits = omega (arith, t.long, room.words)

      read : Readable nand page g way free i
      read = t.each i t.least h

      here : places_in new i ≡ members b.words
      here = ap (λ (x : Bits). members x.words) (get_or-set_same free i b no_set fits)

      -- the others are as they were
      kept : (k : ℕ) → (k ≡ i → ⊥) → set_in new k ≡ set_in free k
      kept k d = ap (λ (x : Bits). x.words) (get_or-set_other free i k b no_set d)

      long : length new ≡ length first
      long = length-set free i b ∙ t.long

      behind : (k : ℕ) → i + 1 ≤ k → k ≤ g.slots → set_in new k ≡ set_in first k
      behind k a l = kept k (λ e. omega arith) ∙ t.same k (omega arith) l

      before : rows_on row (places_in new) from (i - from) ≡ rows_on row (places_in free) from (i - from)
      before =
          rows_same row (places_in new) (places_in free) (i - from) from
          (λ k a l. ap members (kept k (λ e. omega (arith, t.least))))

      each : (k : ℕ) → from ≤ k → k ≤ g.slots → Readable nand page g way new k
      each k a l =
          record { inside = (t.each k a l).inside; recorded = (t.each k a l).recorded; below = go (ℕ_discrete k i) }
        where
          go : Dec (k ≡ i) → Below (records_at g k).count (places_in new k)
          go (yes e) = rw (e, here, left) (left_below s.rising (fit_at i) _ (places_in free i) read.below)
          go (no d) = rw (ap members (kept k d)) (t.each k a l).below

      -- the rows of segment i, before and after
      rows_now : map (row i) (places_in new i) ≡ left_in (map (row i) (places_in first i))
      rows_now =
          ap (map (row i)) (here ∙ left) ∙ sym (segment_left free i read)
          ∙ ap (λ (ws' : List ℕ). left_in (map (row i) (members ws'))) (t.same i (omega arith) h)

      all_step : all i ≡ map (row i) (places_in first i) ++ all (i + 1)
      all_step = rows_step row (places_in first) i (g.slots + 1 - i) (g.slots + 1 - (i + 1)) (omega arith)

      now_ends : ends s.rising (fit_row s) (map (row i) (places_in first i)) ≡ ends s.rising (fit_at i) (places_in free i)
      now_ends = ap (λ (ws' : List ℕ). ends s.rising (fit_row s) (map (row i) (members ws'))) (sym (t.same i (omega arith) h)) ∙ segment_ends free i read

      now_taken : taken_in (map (row i) (places_in first i)) ≡ mapped (row i) (taken_of s.rising (fit_at i) (places_in free i))
      now_taken = ap (λ (ws' : List ℕ). taken_in (map (row i) (members ws'))) (sym (t.same i (omega arith) h)) ∙ segment_taken free i read

      -- what is left of the segments from i on, and what is taken
      left_all : (x : Bool) → ends s.rising (fit_at i) (places_in free i) ≡ x
          → left_in (all i) ≡ map (row i) (places_in new i) ++ cond x (all (i + 1)) (left_in (all (i + 1)))
      left_all x e =
          ap left_in all_step ∙ left_append s.rising (fit_row s) (map (row i) (places_in first i)) (all (i + 1))
          ∙ ap₂ ◌++◌ (sym rows_now) (ap (λ (y : Bool). cond y (all (i + 1)) (left_in (all (i + 1)))) (now_ends ∙ e))

      taken_all : (x : Bool) → ends s.rising (fit_at i) (places_in free i) ≡ x
          → taken_in (all i) ≡ cond x (mapped (row i) (taken_of s.rising (fit_at i) (places_in free i))) (taken_in (all (i + 1)))
      taken_all x e =
          ap taken_in all_step ∙ taken_append s.rising (fit_row s) (map (row i) (places_in first i)) (all (i + 1))
          ∙ ap₂ (λ (y : Bool) (o : Option (List ℕ)). cond y o (taken_in (all (i + 1)))) (now_ends ∙ e) now_taken

      -- the look goes on
      pub taking_on : ends s.rising (fit_at i) (places_in free i) ≡ false → Taking new (i + 1)
      unfolding rows_on
      taking_on e =
          let m : i + 1 - from ≡ (i - from) + 1 = omega (arith, t.least) in
          let f : from + (i - from) ≡ i = omega (arith, t.least) in
          record {
            least = omega (arith, t.least);
            most = omega arith;
            long = long;
            same = behind;
            each = each;
            left_is =
                t.left_is ∙ ap₂ ◌++◌ (sym before) (left_all false e)
                ∙ sym (append_assoc (rows_on row (places_in new) from (i - from)) (map (row i) (places_in new i)) (left_in (all (i + 1))))
                ∙ ap (λ (l : List (List ℕ)). l ++ left_in (all (i + 1))) (sym (ap (rows_on row (places_in new) from) m
                ∙ rows_split row (places_in new) (i - from) from 1
                ∙ ap (λ (k : ℕ). rows_on row (places_in new) from (i - from) ++ (map (row k) (places_in new k) ++ [])) f
                ∙ ap (λ (l : List (List ℕ)). rows_on row (places_in new) from (i - from) ++ l) (append-nil (map (row i) (places_in new i)))));
            taken_is = t.taken_is ∙ taken_all false e;
          }

      -- it ends here
      ended : ends s.rising (fit_at i) (places_in free i) ≡ true → ReadableFrom nand page g way first from → (k : Maybe Taken)
          → taken_row nand page g way k ≡ mapped (row i) (taken_of s.rising (fit_at i) (places_in free i)) → IfSome k (TakenFrom g from)
          → Takes nand page g way s first new from k
      ended e r k k_is place =
          record {
            taken_is = k_is ∙ sym (t.taken_is ∙ taken_all true e);
            left_is =
                ap (rows_on row (places_in new) from) m ∙ rows_split row (places_in new) (i - from) from (g.slots + 1 - i)
                ∙ ap₂ ◌++◌ before (ap (λ (k : ℕ). rows_on row (places_in new) k (g.slots + 1 - i)) f
                ∙ rows_step row (places_in new) i (g.slots + 1 - i) (g.slots + 1 - (i + 1)) (omega arith)
                ∙ ap (λ (l : List (List ℕ)). map (row i) (places_in new i) ++ l) others ∙ sym (left_all true e))
                ∙ sym t.left_is;
            readable = record { from_most = r.from_most; each = each };
            place = place;
          }
        where
          m : g.slots + 1 - from ≡ (i - from) + (g.slots + 1 - i)
          m = omega (arith, t.least)

          f : from + (i - from) ≡ i
          f = omega (arith, t.least)

          others : rows_on row (places_in new) (i + 1) (g.slots + 1 - (i + 1)) ≡ all (i + 1)
          others =
              rows_same row (places_in new) (places_in first) (g.slots + 1 - (i + 1)) (i + 1)
              (λ k a b. ap members (behind k a (omega arith)))

      pub taking_found : ends s.rising (fit_at i) (places_in free i) ≡ true → ReadableFrom nand page g way first from → (at : ℕ)
          → some at ≡ taken_of s.rising (fit_at i) (places_in free i)
          → Takes nand page g way s first new from (Some (record { segment = i; at = at }))
      taking_found e r at k =
          ended e r (Some (record { segment = i; at = at })) (ap (mapped (row i)) k)
          (record { least = t.least; most = h; below = taken_below s.rising (fit_at i) _ (places_in free i) read.below at (sym k) })

      pub taking_late : ends s.rising (fit_at i) (places_in free i) ≡ true → ReadableFrom nand page g way first from
          → none ≡ taken_of s.rising (fit_at i) (places_in free i) → Takes nand page g way s first new from None
      taking_late e r k = ended e r None (ap (mapped (row i)) k) tt
