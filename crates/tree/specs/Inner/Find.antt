-- A search of a tree that stands as a list of buckets: the laws compare it with the search of its bytes. Assumes nothing.
use Rattle.std.specs.Prelude.{ℕ, zero, suc, ◌+◌, Bool, cond, List, [], ◌∷◌, ◌++◌, eqb, length}
use Rattle.tree.specs.Rules.{Bucket, at}
use Rattle.tree.specs.Search.{reached, hits}

-- the positions found in the n buckets from i on, where the buckets of the set r are reached
unfoldable pub find_from : ℕ → ℕ → List Bucket → ℕ → ℕ → (ℕ → Bool) → List ℕ
find_from k1 k2 t zero i r = []
find_from k1 k2 t (suc n) i r =
    cond (r i) (hits k1 k2 (at t i).entries) [] ++ find_from k1 k2 t n (suc i) (cond (r i) (reached k1 k2 (at t i).kids r) r)

-- the positions found from the root on
unfoldable pub find : ℕ → ℕ → List Bucket → List ℕ
find k1 k2 t = find_from k1 k2 t (length t) 0 (λ j. eqb j 0)

-- how often p stands in a list
unfoldable pub times : ℕ → List ℕ → ℕ
times p [] = 0
times p (q ∷ qs) = cond (eqb q p) 1 0 + times p qs
