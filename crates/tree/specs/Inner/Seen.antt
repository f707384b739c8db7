-- What the code's record of a bucket holds: the bucket as it is read, and how many entries it has.
-- Assumes nothing.
use Rattle.std.specs.Prelude.{ℕ, cond, Option, Some, None, List, [], length}
use Rattle.tree.specs.Rules.{Entry}
use Rattle.tree.specs.Reading as Reading
use Rattle.tree.specs.Reading.{node_in, node_good, positions_good}
use Rattle.tree.specs.declared.Node.{Node}

-- the numbers before a bucket's entries
abbrev pub head_of : ℕ → ℕ → ℕ → ℕ → ℕ → Reading.Node
head_of x y mid left right = record { x = x; y = y; mid = mid; left = left; right = right; entries = [] }

-- how many entries there are, none where a position is not below the count
abbrev pub counted_on : ℕ → List Entry → Option ℕ
counted_on count entries = cond (positions_good count entries) (Some (length entries)) None

-- the bucket in these bytes
abbrev pub read_node : List ℕ → Node
read_node s =
    record {
      x = (node_in s).x;
      y = (node_in s).y;
      mid = (node_in s).mid;
      left = (node_in s).left;
      right = (node_in s).right;
      used = length (node_in s).entries;
    }

-- bucket b in these bytes, in a tree of so many buckets and lifts, none where it is damaged
unfoldable pub seen_node : List ℕ → ℕ → ℕ → ℕ → Option Node
seen_node s b buckets count = cond (node_good (node_in s) b buckets count) (Some (read_node s)) None
