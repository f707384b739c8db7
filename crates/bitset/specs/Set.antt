-- Document 01, "Search": "The matches of one segment are a set of 320 bits".
use Rattle.std.specs.Prelude.{Bool, false, cond, ◌||◌, List, [], ◌∷◌, ℕ, zero, suc, eqb}

-- those of the n numbers from `from` on that f picks, lowest first
unfoldable pub picked : (ℕ → Bool) → ℕ → ℕ → List ℕ
picked f from zero = []
picked f from (suc n) = cond (f from) (from ∷ picked f (suc from) n) (picked f (suc from) n)

-- whether p stands in a list
unfoldable pub elem : ℕ → List ℕ → Bool
elem p [] = false
elem p (q ∷ qs) = eqb p q || elem p qs

-- how many numbers stand in a list, each counted once
unfoldable pub distinct : List ℕ → ℕ
distinct [] = 0
distinct (p ∷ ps) = cond (elem p ps) (distinct ps) (suc (distinct ps))
