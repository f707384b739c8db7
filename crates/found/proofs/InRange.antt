-- Every row that a search finds has 32 bytes and a load from k1 to k2, whatever the chips hold: an entry's load is compared with its record's.
-- Assumes nothing.
use mathlib.Core.Path.{◌≡◌, refl, sym}
use mathlib.Core.Bool.{Bool, true, false, cond, ◌&&◌, ◌||◌}
use mathlib.Core.Option.{Option, none, some}
use mathlib.Core.List.{List, [], ◌∷◌, ◌++◌, map}
use Prim.Native.Nat.{ℕ, zero, suc, ◌+◌}
use lib.Dec.{eqb}
use lib.ListN.{length}
use borrow.Author.Tests.{eqb-true}
use Rattle.codec.proofs.Truth.{and_parts}
use Rattle.codec.proofs.Lists.{AllOf, all_append}
use Rattle.bitset.specs.Set.{picked, elem}
use Rattle.bitset.specs.Inner.Words.{Below}
use Rattle.lift.specs.Record.{code_at}
use Rattle.lift.specs.Rows.{time_in, code_in, record_in, in_full_pages}
use Rattle.lift.proofs.Rows.{code_of_record}
use Rattle.tree.specs.Rules.{Entry}
use Rattle.tree.specs.Search.{within, hits}
use Rattle.tree.specs.Reading.{node_good}
use Rattle.tree.proofs.Descent.{if, none_some}
use Rattle.tree.specs.Sweep.{records_good, and_then, node_at, visited_on, visit_good, gathered, sweep_on}
use Rattle.skiplist.specs.Skip.{Live}
use Rattle.sweep.specs.declared.Records.{Records}
use Rattle.sweep.specs.Inner.Swept.{Recorded}
use Rattle.sweep.proofs.Found.{sweep_below}
use Rattle.visit.specs.declared.Closed.{Closed}
use Rattle.visit.specs.declared.Log.{Log}
use Rattle.visit.specs.declared.Query.{Query}
use Rattle.visit.specs.Visit.{timely, timed, timed_of, matches_of, rows_at, closed_lifts, closed_matches, closed_rows, open_lifts, open_matches, open_rows}
use Rattle.visit.specs.Inner.Sound.{ClosedSound, LogSound, closed_records, open_records}
use Rattle.visit.proofs.Areas.{closed_recorded, open_recorded}
use Rattle.visit.proofs.Emptying.{recorded_at}
use Rattle.visit.proofs.Matched.{below_elem}
use Rattle.walk.specs.declared.Cursor.{Cursor}
use Rattle.walk.specs.Seek.{start_of}
use Rattle.walk.proofs.Hops.{start_begun}
use Rattle.found.specs.Found.{closed_found, found_rows, rows_from}
use Rattle.found.proofs.Counts.{never}
use Rattle.found.proofs.Matched.{closed_wide, open_wide}
use Rattle.found.proofs.Segments.{from_all}
use Rattle.found.proofs.Wide.{AllIn, all_join}

-- ---- the positions that a tree gives

module _ (area : List ℕ) (buckets count : ℕ) (recorded : ℕ → ℕ) (k1 k2 : ℕ) where
  -- the load of its record is from k1 to k2
  abbrev InSpan : ℕ → Type 0
  InSpan p = within k1 k2 (recorded p) ≡ true

  hits_in : (es : List Entry) → records_good recorded k1 k2 es ≡ true → AllOf InSpan (hits k1 k2 es)
  unfolding records_good hits
  hits_in [] g = tt
  hits_in (e ∷ es) g =
      let t = and_parts (cond (within k1 k2 e.load) (eqb e.load (recorded e.position)) true) (records_good recorded k1 k2 es) g in
      go (within k1 k2 e.load) refl t.0 (hits_in es t.1)
    where
      go : (b : Bool) → within k1 k2 e.load ≡ b → cond b (eqb e.load (recorded e.position)) true ≡ true
          → AllOf InSpan (hits k1 k2 es) → AllOf InSpan (cond b (e.position ∷ hits k1 k2 es) (hits k1 k2 es))
      go true w h rest = (rw (← eqb-true e.load (recorded e.position) h) w, rest)
      go false w h rest = rest

  then_in : (hs : List ℕ) (o : Option (List ℕ)) (ps : List ℕ) → and_then hs o ≡ some ps → AllOf InSpan hs
      → ((qs : List ℕ) → o ≡ some qs → AllOf InSpan qs) → AllOf InSpan ps
  then_in hs none ps e h k = none_some e
  then_in hs (some qs) ps e h k = let d : hs ++ qs ≡ ps = cc in rw (← d) (all_append InSpan hs qs h (k qs refl))

  gathered_in : (bs ps : List ℕ) → gathered area buckets count recorded k1 k2 bs ≡ some ps → AllOf InSpan ps
  unfolding gathered
  gathered_in [] ps e = let d : [] ≡ ps = cc in rw (← d) tt
  gathered_in (b ∷ bs) ps e =
      if (visit_good area buckets count recorded k1 k2 b)
      (λ g. then_in _ _ ps (rw g at e) (hits_in (node_at area b).entries
      (and_parts (node_good (node_at area b) b buckets count) (records_good recorded k1 k2 (node_at area b).entries) g).1)
      (λ qs. gathered_in bs qs))
      (λ g. none_some (rw g at e))

  sweep_in : (ps : List ℕ) → sweep_on area buckets count recorded k1 k2 ≡ some ps → AllOf InSpan ps
  unfolding sweep_on
  sweep_in ps e = gathered_in (visited_on area buckets k1 k2) ps e

-- ---- the rows of a segment

-- a row whose load is from k1 to k2
abbrev pub InRange : Query → List ℕ → Type 0
InRange q r = within q.k1 q.k2 (code_at r 0) ≡ true

all_elem : (P : ℕ → Type 0) (p : ℕ) (ps : List ℕ) → AllOf P ps → elem p ps ≡ true → P p
unfolding elem
all_elem P p [] a e = never (sym e)
all_elem P p (x ∷ ps) a e = go (eqb p x) refl e (λ h. all_elem P p ps a.1 h)
  where
    go : (t : Bool) → eqb p x ≡ t → (t || elem p ps) ≡ true → (elem p ps ≡ true → P p) → P p
    go true f h ih = let same : p ≡ x = eqb-true p x f in rw same a.0
    go false f h ih = ih h

picked_all : (P : List ℕ → Type 0) (row : ℕ → List ℕ) (f : ℕ → Bool) (from n : ℕ) → ((p : ℕ) → f p ≡ true → P (row p))
    → AllOf P (map row (picked f from n))
unfolding picked
picked_all P row f from zero h = tt
picked_all P row f from (suc n) h = go (f from) refl (picked_all P row f (suc from) n h)
  where
    go : (t : Bool) → f from ≡ t → AllOf P (map row (picked f (suc from) n))
        → AllOf P (map row (cond t (from ∷ picked f (suc from) n) (picked f (suc from) n)))
    go true e a = (h from e, a)
    go false e a = a

matches_in : (tree lifts tail : List ℕ) (g : Records) (q : Query) → Recorded lifts tail g
    → AllIn (InRange q) (rows_at (record_in lifts tail g.first) (matches_of tree lifts tail g.first g.count g.buckets q))
unfolding matches_of timed
matches_in tree lifts tail g q r =
    go (sweep_on tree g.buckets g.count (code_in lifts tail g.first) q.k1 q.k2)
    (sweep_below tree g.buckets g.count (code_in lifts tail g.first) q.k1 q.k2)
    (sweep_in tree g.buckets g.count (code_in lifts tail g.first) q.k1 q.k2)
  where
    go : (o : Option (List ℕ)) → ((ps : List ℕ) → o ≡ some ps → Below g.count ps)
        → ((ps : List ℕ) → o ≡ some ps → AllOf (λ p. within q.k1 q.k2 (code_in lifts tail g.first p) ≡ true) ps)
        → AllIn (InRange q) (rows_at (record_in lifts tail g.first) (timed_of (time_in lifts tail g.first) q o))
    go none below in_span = tt
    go (some ps) below in_span =
        picked_all (InRange q) (record_in lifts tail g.first) (λ p. elem p ps && timely q (time_in lifts tail g.first p)) 0 320 (λ p e.
        let there = (and_parts (elem p ps) _ e).0 in
        let h = recorded_at lifts tail g p r (below_elem g.count p ps (below ps refl) there) in
        rw (code_of_record lifts tail g.first p h.0 h.1)
        (all_elem (λ x. within q.k1 q.k2 (code_in lifts tail g.first x) ≡ true) p ps (in_span ps refl) there))

closed_in : (nand : List ℕ) (s : Closed) (q : Query) → ClosedSound nand s → AllIn (InRange q) (closed_rows nand s q)
unfolding closed_rows closed_matches
closed_in nand s q sound = matches_in _ (closed_lifts nand s) (closed_lifts nand s) (closed_records s) q (closed_recorded nand s sound)

open_in : (nand nor page : List ℕ) (g : Log) (q : Query) → LogSound nand nor g → length page ≡ 512
    → AllIn (InRange q) (open_rows nand nor page g q)
unfolding open_rows open_matches
open_in nand nor page g q sound size = go (eqb g.count 0)
  where
    go : (b : Bool) → AllIn (InRange q) (cond b (some [])
        (rows_at (record_in (open_lifts nand g) page (in_full_pages g.count)) (open_matches nand nor page g q)))
    go true = tt
    go false = matches_in _ (open_lifts nand g) page (open_records g) q (open_recorded nand nor g sound page size)

-- ---- all segments

module _ (nand nor page : List ℕ) (g : Log) (live : Live) (q : Query) (sound : LogSound nand nor g) (size : length page ≡ 512) where
  found_all : (P : List ℕ → Type 0) → ((s : Closed) → ClosedSound nand s → AllIn P (closed_rows nand s q))
      → AllIn P (open_rows nand nor page g q) → AllIn P (found_rows nand nor page g live q)
  unfolding found_rows
  found_all P each newest = all_join P (closed_found nand g live q c) (open_rows nand nor page g q) (go c.good) newest
    where
      c : Cursor
      c = start_of nand g live q

      go : (b : Bool) → AllIn P (cond b (rows_from (g.current + 1) nand g.slots live q c) none)
      go true =
          from_all nand g.slots live q sound.nand_size P each (g.current + 1) c (start_begun nand g live q sound.heads_in).sound
      go false = tt

  pub found_wide : AllIn (λ r. length r ≡ 32) (found_rows nand nor page g live q)
  found_wide = found_all (λ r. length r ≡ 32) (λ s h. closed_wide nand s q h) (open_wide nand nor page g q sound size)

  pub found_in_range : AllIn (InRange q) (found_rows nand nor page g live q)
  found_in_range = found_all (InRange q) (λ s h. closed_in nand s q h) (open_in nand nor page g q sound size)
