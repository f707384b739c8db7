-- The pages that hold the buckets which a search visits: pages 20 to 28, so at most nine. Assumes nothing.
use Prim.Native.Nat.{ℕ, zero, suc, ◌+◌, ◌≤◌}
use mathlib.Core.Bool.{Bool, true, false, cond}
use mathlib.Core.List.{List, ◌∷◌, map}
use native.Mathlib.Omega.{arith}
use lib.Dec.{eqb}
use Rattle.bitset.specs.Set.{distinct}
use Rattle.bitset.proofs.Distinct.{Among, distinct_most}
use Rattle.tree.specs.Place.{bucket_page}
use Rattle.tree.specs.Reading.{kids_of}
use Rattle.tree.specs.Search.{reached}
use Rattle.tree.specs.Sweep.{node_at, visited_from, visited_on}

module _ (area : List ℕ) (k1 k2 : ℕ) where
  -- those of the n buckets from b on lie among the pages of the tree, and so among any that take these in
  pages_among : (from most : ℕ) → from ≤ 20 → 29 ≤ from + most → (n b : ℕ) (r : ℕ → Bool) → b + n ≤ 36
      → Among from most (map bucket_page (visited_from area k1 k2 n b r))
  unfolding visited_from
  pages_among from most u v zero b r l = tt
  pages_among from most u v (suc n) b r l =
      go (r b) _ _ (pages_among from most u v n (suc b) (reached k1 k2 (kids_of (node_at area b)) r) (omega arith))
      (pages_among from most u v n (suc b) r (omega arith))
    where
      go : (t : Bool) (bs cs : List ℕ) → Among from most (map bucket_page bs) → Among from most (map bucket_page cs)
          → Among from most (map bucket_page (cond t (b ∷ bs) cs))
      go true bs cs x y = (omega arith, omega arith, x)
      go false bs cs x y = y

  module _ (buckets : ℕ) (few : buckets ≤ 36) where
    pub visited_among : (from most : ℕ) → from ≤ 20 → 29 ≤ from + most
        → Among from most (map bucket_page (visited_on area buckets k1 k2))
    visited_among from most u v = pages_among from most u v buckets 0 (λ j. eqb j 0) (omega arith)

    -- whatever the bytes are
    pub visited_most : distinct (map bucket_page (visited_on area buckets k1 k2)) ≤ 9
    visited_most = distinct_most 20 9 (map bucket_page (visited_on area buckets k1 k2)) (visited_among 20 9 (omega arith) (omega arith))
