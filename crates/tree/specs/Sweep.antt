-- A search's way through a tree's bytes (document 01, "Search"): the buckets that are visited, in rising order of their numbers, and what
-- they give. Assumes nothing.
use Rattle.std.specs.Prelude.{ℕ, zero, suc, Bool, true, cond, ◌&&◌, List, [], ◌∷◌, ◌++◌, eqb}
use Rattle.std.proofs.Math.Option.{Option, none, some}
use Rattle.tree.specs.Rules.{Entry}
use Rattle.tree.specs.Search.{within, reached, hits}
use Rattle.tree.specs.Reading.{bucket_at, Node, node_in, kids_of, node_good}

-- damage: "where a search reads the record, a load unlike it"; a record is read for every entry with a load from k1 to k2
unfoldable pub records_good : (ℕ → ℕ) → ℕ → ℕ → List Entry → Bool
records_good recorded k1 k2 [] = true
records_good recorded k1 k2 (e ∷ es) =
    cond (within k1 k2 e.load) (eqb e.load (recorded e.position)) true && records_good recorded k1 k2 es

-- positions found, and those found after them; none stands for damage
abbrev pub and_then : List ℕ → Option (List ℕ) → Option (List ℕ)
and_then ps none = none
and_then ps (some qs) = some (ps ++ qs)

-- bucket b in the bytes of an area
abbrev pub node_at : List ℕ → ℕ → Node
node_at area b = node_in (bucket_at area b)

-- the buckets visited of the n from b on, where those of the set r are reached; a bucket that is not reached is not read
unfoldable pub visited_from : List ℕ → ℕ → ℕ → ℕ → ℕ → (ℕ → Bool) → List ℕ
visited_from area k1 k2 zero b r = []
visited_from area k1 k2 (suc n) b r =
    cond (r b) (b ∷ visited_from area k1 k2 n (suc b) (reached k1 k2 (kids_of (node_at area b)) r)) (visited_from area k1 k2 n (suc b) r)

-- from the root on, of a tree of so many buckets
abbrev pub visited_on : List ℕ → ℕ → ℕ → ℕ → List ℕ
visited_on area buckets k1 k2 = visited_from area k1 k2 buckets 0 (λ j. eqb j 0)

-- a tree of so many buckets and lifts in the bytes of an area, with the load that each position's record has
module _ (area : List ℕ) (buckets count : ℕ) (recorded : ℕ → ℕ) (k1 k2 : ℕ) where
  -- bucket b is without damage, its records too
  abbrev pub visit_good : ℕ → Bool
  visit_good b = node_good (node_at area b) b buckets count && records_good recorded k1 k2 (node_at area b).entries

  -- the matching positions in the buckets of a list, or damage
  unfoldable pub gathered : List ℕ → Option (List ℕ)
  gathered [] = some []
  gathered (b ∷ bs) = cond (visit_good b) (and_then (hits k1 k2 (node_at area b).entries) (gathered bs)) none

  -- in the buckets visited
  unfoldable pub sweep_on : Option (List ℕ)
  sweep_on = gathered (visited_on area buckets k1 k2)
