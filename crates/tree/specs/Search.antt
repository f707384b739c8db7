-- A search of a tree for the loads from k1 to k2 (document 01, "Search"), over its buckets in rising order of their numbers.
-- Assumes nothing.
use Rattle.std.specs.Prelude.{ℕ, Bool, true, false, cond, ◌&&◌, List, [], ◌∷◌, leb, ltb, eqb}
use Rattle.std.proofs.Math.Option.{Option, none, some}
use Rattle.tree.specs.Rules.{Entry, Kids, whole, split}

-- a load from k1 to k2
abbrev pub within : ℕ → ℕ → ℕ → Bool
within k1 k2 l = leb k1 l && leb l k2

-- a set of bucket numbers, with a child where it is taken and there is one
abbrev pub reached_with : Bool → Option ℕ → (ℕ → Bool) → ℕ → Bool
reached_with false c r j = r j
reached_with true none r j = r j
reached_with true (some c) r j = cond (eqb j c) true (r j)

-- "In the tree, left is taken if mid ≥ k1, right if mid < k2."
abbrev pub reached : ℕ → ℕ → Kids → (ℕ → Bool) → ℕ → Bool
reached k1 k2 whole r j = r j
reached k1 k2 (split m left right) r j = reached_with (ltb m k2) right (reached_with (leb k1 m) left r) j

-- the positions of the entries whose load is from k1 to k2; a split bucket has entries too ("Visiting only leaves: split
-- buckets keep their lifts")
unfoldable pub hits : ℕ → ℕ → List Entry → List ℕ
hits k1 k2 [] = []
hits k1 k2 (e ∷ es) = cond (within k1 k2 e.load) (e.position ∷ hits k1 k2 es) (hits k1 k2 es)
