-- What a search takes from each segment (document 01, "Search"). Assumes nothing.
use Rattle.std.specs.Prelude.{Bool, cond, ◌&&◌, List, [], map, ℕ, eqb, leb}
use Rattle.std.proofs.Math.Option.{Option, none, some}
use Rattle.flash.specs.Chip.{slot_of, pages_of, nor_tree, tree_first, tree_pages}
use Rattle.lift.specs.Rows.{time_in, code_in, record_in, lifts_most, in_full_pages}
use Rattle.bitset.specs.Set.{picked, elem, distinct}
use Rattle.tree.specs.Place.{bucket_page}
use Rattle.tree.specs.Sweep.{visited_on, sweep_on}
use Rattle.visit.specs.declared.Closed.{Closed}
use Rattle.visit.specs.declared.Log.{Log}
use Rattle.visit.specs.declared.Query.{Query}

-- a time from t1 to t2
abbrev pub timely : Query → ℕ → Bool
timely q t = leb q.t1 t && leb t q.t2

-- the places, lowest first, of those positions whose times are from t1 to t2
unfoldable pub timed : (ℕ → ℕ) → Query → List ℕ → List ℕ
timed time q ps = picked (λ p. elem p ps && timely q (time p)) 0 lifts_most

abbrev pub timed_of : (ℕ → ℕ) → Query → Option (List ℕ) → Option (List ℕ)
timed_of time q none = none
timed_of time q (some ps) = some (timed time q ps)

-- the matches of a segment whose records stand in `lifts`, those from place `first` on in `tail`; none where damage is met
unfoldable pub matches_of : List ℕ → List ℕ → List ℕ → ℕ → ℕ → ℕ → Query → Option (List ℕ)
matches_of tree lifts tail first count buckets q =
    timed_of (time_in lifts tail first) q (sweep_on tree buckets count (code_in lifts tail first) q.k1 q.k2)

-- of a closed segment
abbrev pub closed_lifts : List ℕ → Closed → List ℕ
closed_lifts nand s = pages_of nand s.slot 0 tree_first

unfoldable pub closed_matches : List ℕ → Closed → Query → Option (List ℕ)
closed_matches nand s q =
    matches_of (pages_of nand s.slot tree_first tree_pages) (closed_lifts nand s) (closed_lifts nand s) lifts_most s.count s.buckets q

-- W-207: how many tree pages of a closed segment hold a bucket visited
unfoldable pub tree_read : List ℕ → Closed → Query → ℕ
tree_read nand s q = distinct (map bucket_page (visited_on (pages_of nand s.slot tree_first tree_pages) s.buckets q.k1 q.k2))

-- of the open segment: its full pages are in NAND, the rest in the page buffer
abbrev pub open_lifts : List ℕ → Log → List ℕ
open_lifts nand g = pages_of nand (slot_of g.current g.slots) 0 tree_first

unfoldable pub open_matches : List ℕ → List ℕ → List ℕ → Log → Query → Option (List ℕ)
open_matches nand nor page g q =
    matches_of (nor_tree nor) (open_lifts nand g) page (in_full_pages g.count) g.count g.buckets q

-- the rows of matches: their records
abbrev pub rows_at : (ℕ → List ℕ) → Option (List ℕ) → Option (List (List ℕ))
rows_at record' none = none
rows_at record' (some ps) = some (map record' ps)

unfoldable pub closed_rows : List ℕ → Closed → Query → Option (List (List ℕ))
closed_rows nand s q = rows_at (record_in (closed_lifts nand s) (closed_lifts nand s) lifts_most) (closed_matches nand s q)

-- none where the open segment has no lifts
unfoldable pub open_rows : List ℕ → List ℕ → List ℕ → Log → Query → Option (List (List ℕ))
open_rows nand nor page g q =
    cond (eqb g.count 0) (some [])
    (rows_at (record_in (open_lifts nand g) page (in_full_pages g.count)) (open_matches nand nor page g q))
