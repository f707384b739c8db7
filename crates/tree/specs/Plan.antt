-- Where an entry goes in a tree's bytes, from reads alone (document 01, "Tree" and "Search": "An append reads the buckets
-- on its path"). Assumes nothing.
use Rattle.std.specs.Prelude.{ℕ, zero, suc, Bool, true, false, cond, List, leb, ltb, eqb, length}
use Rattle.std.proofs.Math.Option.{none, some}
use Rattle.lift.specs.Rows.{lifts_most}
use Rattle.split.specs.Split.{midpoint}
use Rattle.tree.specs.Rules.{Kids, whole, split, next, buckets_most, entries_most}
use Rattle.tree.specs.Reading.{bucket_at, Node, node_in, kids_of, node_good}
use Rattle.tree.specs.Bytes.{left_at, right_at}

pub data Plan : Type 0 where
  -- damage on the path
  damaged : Plan
  -- no room in this segment, which closes first: 320 lifts, or bucket 36 is needed
  no_room : Plan
  -- the first entry, in a new root
  new_root : Plan
  -- into bucket b, as its entry i
  into_bucket : ℕ → ℕ → Plan
  -- below split bucket b, into a new child: the byte of the child's number, and its range (x, y]
  new_child : ℕ → ℕ → ℕ → ℕ → Plan
  -- full bucket b is split at a mid, and a new child takes the entry: that byte, and the child's range
  split_bucket : ℕ → ℕ → ℕ → ℕ → ℕ → Plan

-- "left and right child (1 each ..)": bytes 12 and 13 of a bucket
abbrev pub side_byte : ℕ → ℕ → ℕ
side_byte l m = cond (leb l m) left_at right_at

-- the child's range, (x, m] on the left and (m, y] on the right
abbrev pub low_end : ℕ → ℕ → ℕ → ℕ
low_end l x m = cond (leb l m) x m

abbrev pub high_end : ℕ → ℕ → ℕ → ℕ
high_end l y m = cond (leb l m) m y

-- the load l stays at bucket b: it has no child there
abbrev pub plan_here : Node → ℕ → List ℕ → ℕ → Kids → Plan
plan_here n b loads l whole =
    let m : ℕ = midpoint n.x n.y loads in
    cond (ltb (length n.entries) entries_most) (into_bucket b (length n.entries))
    (split_bucket b m (side_byte l m) (low_end l n.x m) (high_end l n.y m))
plan_here n b loads l (split m left right) = new_child b (side_byte l m) (low_end l n.x m) (high_end l n.y m)

-- down from bucket b; each bucket on the path is checked whole. A child's number is above its parent's and below the bucket
-- count, so as many steps as there are buckets are enough.
unfoldable pub plan_from : List ℕ → ℕ → ℕ → List ℕ → ℕ → ℕ → ℕ → Plan
plan_from area buckets count loads l zero b = damaged
plan_from area buckets count loads l (suc steps) b =
    let n : Node = node_in (bucket_at area b) in
    cond (node_good n b buckets count)
    (elim (next (kids_of n) l) [ none ↦ plan_here n b loads l (kids_of n) | some c ↦ plan_from area buckets count loads l steps c ])
    damaged

-- "needs bucket 36 (numbers run 0–35)": a plan for a new bucket, or no room for it
abbrev pub or_no_room : ℕ → Plan → Plan
or_no_room buckets damaged = damaged
or_no_room buckets no_room = no_room
or_no_room buckets new_root = new_root
or_no_room buckets (into_bucket b i) = into_bucket b i
or_no_room buckets (new_child b side x y) = cond (ltb buckets buckets_most) (new_child b side x y) no_room
or_no_room buckets (split_bucket b m side x y) = cond (ltb buckets buckets_most) (split_bucket b m side x y) no_room

-- where the load l goes, in a tree of so many buckets and lifts, after these last loads
unfoldable pub plan_on : List ℕ → ℕ → ℕ → List ℕ → ℕ → Plan
plan_on area buckets count loads l =
    cond (eqb count 0) new_root
    (cond (eqb count lifts_most) no_room (or_no_room buckets (plan_from area buckets count loads l buckets 0)))

-- the plan stops at damage; the plan closes the segment first
abbrev pub is_damaged : Plan → Bool
is_damaged damaged = true
is_damaged no_room = false
is_damaged new_root = false
is_damaged (into_bucket b i) = false
is_damaged (new_child b side x y) = false
is_damaged (split_bucket b m side x y) = false

abbrev pub is_no_room : Plan → Bool
is_no_room damaged = false
is_no_room no_room = true
is_no_room new_root = false
is_no_room (into_bucket b i) = false
is_no_room (new_child b side x y) = false
is_no_room (split_bucket b m side x y) = false
