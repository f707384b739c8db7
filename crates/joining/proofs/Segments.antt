-- The rows of segments side by side: those without a free lift, one segment changed. Assumes nothing.
use mathlib.Core.Path.{◌≡◌, refl, sym, ◌∙◌}
use mathlib.Core.List.{List, [], ◌++◌, map, append_assoc}
use Prim.Native.Nat.{ℕ, zero, suc, ◌+◌, ◌-◌, ◌≤◌, ◌<◌}
use native.Mathlib.Omega.{arith}
use Rattle.bitset.specs.declared.Bits.{Bits}
use Rattle.whole_log.specs.Inner.Held.{rows_on, places_in}

-- the first segment, and the others
pub rows_step : (row : ℕ → ℕ → List ℕ) (places : ℕ → List ℕ) (i n m : ℕ) → n ≡ suc m
    → rows_on row places i n ≡ map (row i) (places i) ++ rows_on row places (i + 1) m
unfolding rows_on
rows_step row places i n m e = let z : suc i ≡ i + 1 = omega arith in rw (e, ← z)

pub rows_split : (row : ℕ → ℕ → List ℕ) (places : ℕ → List ℕ) (m i n : ℕ)
    → rows_on row places i (m + n) ≡ rows_on row places i m ++ rows_on row places (i + m) n
unfolding rows_on
rows_split row places zero i n =
    let a : 0 + n ≡ n = omega arith in
    let b : i + 0 ≡ i = omega arith in
    rw (a, b)
rows_split row places (suc m) i n =
    let a : suc m + n ≡ suc (m + n) = omega arith in
    let b : i + suc m ≡ suc i + m = omega arith in
    rw (a, b, rows_split row places m (suc i) n)
    (sym (append_assoc (map (row i) (places i)) (rows_on row places (suc i) m) (rows_on row places (suc i + m) n)))

-- the same places, the same rows
pub rows_same : (row : ℕ → ℕ → List ℕ) (f g : ℕ → List ℕ) (n i : ℕ) → ((k : ℕ) → i ≤ k → k < i + n → f k ≡ g k) → rows_on row f i n ≡ rows_on row g i n
unfolding rows_on
rows_same row f g zero i h = refl
rows_same row f g (suc n) i h =
    rw (h i (omega arith) (omega arith), rows_same row f g n (suc i) (λ k a b. h k (omega arith) (omega arith)))

-- ---- segments without a free lift

pub record Passed (free : List Bits) (from top i : ℕ) : Type 0 where
  pub least : from ≤ i
  pub most : i ≤ top
  pub same : (row : ℕ → ℕ → List ℕ) → rows_on row (places_in free) i (top + 1 - i) ≡ rows_on row (places_in free) from (top + 1 - from)

pub passed_more : (free : List Bits) (from top i : ℕ) → Passed free from top i → i < top → places_in free i ≡ [] → Passed free from top (i + 1)
passed_more free from top i p h e =
    record {
      least = omega (arith, p.least);
      most = omega arith;
      same = λ row.
          let s = rows_step row (places_in free) i (top + 1 - i) (top + 1 - (i + 1)) (omega arith) in
          let z : map (row i) (places_in free i) ++ rows_on row (places_in free) (i + 1) (top + 1 - (i + 1)) ≡ rows_on row (places_in free) (i + 1) (top + 1 - (i + 1)) = rw e in
          sym z ∙ sym s ∙ p.same row;
    }
