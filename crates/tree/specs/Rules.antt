-- The tree of a segment's loads, as a list of buckets (document 01, "Tree", first half). Loads and ranges are stored numbers:
-- load + 50,001. Assumes nothing.
use Rattle.std.specs.Prelude.{ℕ, zero, suc, ◌-◌, Bool, true, false, cond, List, [], ◌∷◌, ◌++◌, leb, ltb, length, get_or, set, drop}
use Rattle.std.proofs.Math.Option.{Option, none, some}
use Rattle.lift.specs.Limits.{code_most, loads_kept}
use Rattle.split.specs.Split.{midpoint}

-- "13 entries of 8: load 4, position 2": "A position is a lift's place in its segment, from 0."
pub record Entry : Type 0 where
  pub load : ℕ
  pub position : ℕ

-- "A bucket is split once its mid is not all 255; only then are its children read": a mid, and the numbers of the left and the
-- right child, where there is one
pub data Kids : Type 0 where
  whole : Kids
  split : ℕ → Option ℕ → Option ℕ → Kids

-- "min x, max y": the range (x, y]
pub record Bucket : Type 0 where
  pub x : ℕ
  pub y : ℕ
  pub kids : Kids
  pub entries : List Entry

-- "numbers run 0–35"; "a bucket with 13 is full"
abbrev pub buckets_most : ℕ
buckets_most = 36

abbrev pub entries_most : ℕ
entries_most = 13

-- "The root range is (−50,001, 100,000]."
abbrev pub root : List Entry → Bucket
root es = record { x = 0; y = code_most; kids = whole; entries = es }

-- bucket i of a tree; past its end an empty root
abbrev pub at : List Bucket → ℕ → Bucket
at t i = get_or t i (root [])

-- "at a split bucket go left if load ≤ mid, else right": the child there, if there is one
abbrev pub next : Kids → ℕ → Option ℕ
next whole l = none
next (split m left right) l = cond (leb l m) left right

-- "Descend from the root": the bucket where the descent of a load from bucket i ends. A child's number is above its
-- parent's, so as many steps as there are buckets are enough.
unfoldable pub descend : ℕ → List Bucket → ℕ → ℕ → ℕ
descend zero t l i = i
descend (suc steps) t l i = elim (next (at t i).kids l) [ none ↦ i | some c ↦ descend steps t l c ]

-- a bucket with one more entry
abbrev pub added : Bucket → Entry → Bucket
added b e = record { x = b.x; y = b.y; kids = b.kids; entries = b.entries ++ (e ∷ []) }

-- the bucket, split at m, with the new child n on the left (true) or on the right. "Split lifts stay in their bucket."
abbrev pub linked : Bucket → Bool → ℕ → Option ℕ → Option ℕ → ℕ → Bucket
linked b q m left right n =
    record { x = b.x; y = b.y; kids = cond q (split m (some n) right) (split m left (some n)); entries = b.entries }

-- the new child on that side: its range is (x, m] or (m, y], and it takes the entry
abbrev pub child_of : Bucket → Bool → ℕ → Entry → Bucket
child_of b q m e = record { x = cond q b.x m; y = cond q m b.y; kids = whole; entries = e ∷ [] }

abbrev pub with_child : List Bucket → ℕ → Bool → ℕ → Option ℕ → Option ℕ → Entry → List Bucket
with_child t i q m left right e = set t i (linked (at t i) q m left right (length t)) ++ (child_of (at t i) q m e ∷ [])

-- "A missing child is allocated with the next number." None where that is 36: "numbers run 0–35".
unfoldable pub allocate : List Bucket → ℕ → ℕ → Option ℕ → Option ℕ → Entry → Option (List Bucket)
allocate t i m left right e = cond (ltb (length t) buckets_most) (some (with_child t i (leb e.load m) m left right e)) none

-- The descent has ended at bucket i: the entry goes into an unsplit bucket that is not full ("a bucket with 13 is full"),
-- or below a split one. "An unsplit full bucket is split" at m, "and the new child takes the entry."
unfoldable pub put : List Bucket → ℕ → ℕ → Entry → Kids → Option (List Bucket)
put t i m e whole =
    cond (ltb (length (at t i).entries) entries_most) (some (set t i (added (at t i) e))) (allocate t i m none none e)
put t i m e (split m' left right) = allocate t i m' left right e

-- "the 13 loads before the new one": the last 13, oldest first; all where there are fewer
unfoldable pub last_loads : List ℕ → List ℕ
last_loads ls = drop (length ls - loads_kept) ls

-- the tree t of the loads ls takes the load l; the first load makes the root. None where bucket 36 would be needed.
unfoldable pub insert : List ℕ → List Bucket → ℕ → Option (List Bucket)
insert ls [] l = some (root (record { load = l; position = length ls } ∷ []) ∷ [])
insert ls (b ∷ t) l =
    let i : ℕ = descend (length (b ∷ t)) (b ∷ t) l 0 in
    put (b ∷ t) i (midpoint (at (b ∷ t) i).x (at (b ∷ t) i).y (last_loads ls)) (record { load = l; position = length ls })
    (at (b ∷ t) i).kids

-- the tree t of the loads ls takes more loads, one by one
unfoldable pub insert_more : List ℕ → List Bucket → List ℕ → Option (List Bucket)
insert_more ls t [] = some t
insert_more ls t (l ∷ more) = elim (insert ls t l) [ none ↦ none | some u ↦ insert_more (ls ++ (l ∷ [])) u more ]

-- the tree of a segment's loads, in order of arrival; none if they need bucket 36. The tree of no loads has no bucket.
unfoldable pub tree_of : List ℕ → Option (List Bucket)
tree_of ls = insert_more [] [] ls

-- "its loads and then the new one need bucket 36 by the tree rules"
unfoldable pub needs_bucket36 : List ℕ → ℕ → Bool
needs_bucket36 ls l = elim (tree_of (ls ++ (l ∷ []))) [ none ↦ true | some t ↦ false ]

-- the buckets of the loads' tree; none where there is no tree
unfoldable pub buckets_of : List ℕ → List Bucket
buckets_of ls = elim (tree_of ls) [ none ↦ [] | some t ↦ t ]
