-- A bucket as it is read from any bytes, and the damage that may be met in it (document 01, "Search", last paragraph).
-- Assumes nothing.
use Rattle.std.specs.Prelude.{ℕ, zero, suc, Bool, true, cond, ◌&&◌, List, [], ◌∷◌, leb, ltb, eqb}
use Rattle.std.proofs.Math.Option.{Option, none, some}
use Rattle.lift.specs.Limits.{code_most}
use Rattle.codec.specs.Area.{part}
use Rattle.codec.specs.Number.{number_at}
use Rattle.tree.specs.Rules.{Entry, Kids, whole, split, entries_most}
use Rattle.tree.specs.Place.{bucket_start, bucket_width}
use Rattle.tree.specs.Bytes.{no_mid, no_child, no_position, mid_at, left_at, right_at, entry_at, position_at}

-- the bytes of bucket b in the tree's area
abbrev pub bucket_at : List ℕ → ℕ → List ℕ
bucket_at area b = part area (bucket_start b) bucket_width

-- entry i of a bucket's bytes
abbrev pub entry_in : List ℕ → ℕ → Entry
entry_in s i = record { load = number_at s (entry_at i) 4; position = number_at s (position_at i) 2 }

-- "entries end at the first with position 65,535": those in the n places from i on
unfoldable pub entries_from : List ℕ → ℕ → ℕ → List Entry
entries_from s zero i = []
entries_from s (suc n) i =
    cond (eqb (number_at s (position_at i) 2) no_position) [] (entry_in s i ∷ entries_from s n (suc i))

-- what stands in a bucket
pub record Node : Type 0 where
  pub x : ℕ
  pub y : ℕ
  pub mid : ℕ
  pub left : ℕ
  pub right : ℕ
  pub entries : List Entry

unfoldable pub node_in : List ℕ → Node
node_in s =
    record {
      x = number_at s 0 4;
      y = number_at s 4 4;
      mid = number_at s mid_at 4;
      left = number_at s left_at 1;
      right = number_at s right_at 1;
      entries = entries_from s entries_most 0;
    }

-- "255 none"
abbrev pub child_at : ℕ → Option ℕ
child_at c = cond (eqb c no_child) none (some c)

-- "A bucket is split once its mid is not all 255; only then are its children read."
unfoldable pub kids_of : Node → Kids
kids_of n = cond (eqb n.mid no_mid) whole (split n.mid (child_at n.left) (child_at n.right))

-- damage: "a child number not above its parent's or not below the bucket count"
abbrev pub child_good : ℕ → ℕ → Option ℕ → Bool
child_good b buckets none = true
child_good b buckets (some c) = ltb b c && ltb c buckets

-- damage: "a used mid outside x<mid≤y"; both children are looked at
abbrev pub kids_good : ℕ → ℕ → ℕ → ℕ → Kids → Bool
kids_good b buckets x y whole = true
kids_good b buckets x y (split m left right) =
    ltb x m && leb m y && (child_good b buckets left && child_good b buckets right)

-- damage: "an entry position not below count"
unfoldable pub positions_good : ℕ → List Entry → Bool
positions_good count [] = true
positions_good count (e ∷ es) = ltb e.position count && positions_good count es

-- bucket b has no damage, in a tree of so many buckets and lifts; "a range outside x<y≤100,000" is damage
unfoldable pub node_good : Node → ℕ → ℕ → ℕ → Bool
node_good n b buckets count =
    ltb n.x n.y && leb n.y code_most && kids_good b buckets n.x n.y (kids_of n) && positions_good count n.entries
