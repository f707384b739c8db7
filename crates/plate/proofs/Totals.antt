-- Counts added up: no place has more than they come to together, and one more at a place is one more in all. Assumes nothing.
use mathlib.Core.Path.{◌≡◌}
use mathlib.Core.List.{List, [], ◌∷◌}
use Prim.Native.Nat.{ℕ, zero, suc, ◌+◌, ◌≤◌, ◌<◌}
use native.Mathlib.Omega.{arith}
use lib.ListN.{length, get_or, set, drop}
use lib.Seq.{drop-cons, drop-length}
use Rattle.plate.specs.Total.{total}

pub place_total : (counts : List ℕ) (i : ℕ) → get_or counts i 0 ≤ total counts
unfolding total
place_total [] i = omega arith
place_total (n ∷ counts) zero = omega arith
place_total (n ∷ counts) (suc i) = omega (arith, place_total counts i)

pub total_more : (counts : List ℕ) (p : ℕ) → p < length counts → total (set counts p (get_or counts p 0 + 1)) ≡ suc (total counts)
unfolding total
total_more [] p h = absurd (omega arith)
total_more (n ∷ counts) zero h = omega arith
total_more (n ∷ counts) (suc p) h = omega (arith, total_more counts p (omega arith))

-- ---- from one place on

pub total_from : (counts : List ℕ) (i : ℕ) → i < length counts → total (drop i counts) ≡ get_or counts i 0 + total (drop (suc i) counts)
unfolding total
total_from counts i h = rw (drop-cons counts i 0 h)

pub total_past : (counts : List ℕ) (i : ℕ) → length counts ≡ i → total (drop i counts) ≡ 0
unfolding total
total_past counts i e = let d : drop i counts ≡ [] = rw (← e) (drop-length counts) in rw d
