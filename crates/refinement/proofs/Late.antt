-- The closed segments that start after t2 are the last ones: from one serial on all do, and none before. Assumes nothing.
use mathlib.Core.Path.{◌≡◌, refl}
use mathlib.Core.Bool.{Bool, true, false, cond}
use mathlib.Core.List.{List, [], ◌∷◌, ◌++◌}
use Prim.Native.Nat.{ℕ, suc, ◌≤◌, ◌<◌}
use native.Mathlib.Omega.{arith}
use lib.Dec.{leb}
use lib.ListN.{length}
use borrow.Author.Tests.{leb-true, leb-false}
use Rattle.paper_log.specs.Log.{Lift}
use Rattle.refinement.specs.Inner.Segments as S
use Rattle.refinement.proofs.Good as G
use Rattle.refinement.proofs.Good.{Segments}
use Rattle.refinement.proofs.Pointers.{live_below}

-- how many at the front start not after t2
unfoldable pub early_count : ℕ → List (List Lift) → ℕ
early_count t2 [] = 0
early_count t2 (ls ∷ rest) = cond (leb (S.start_time ls) t2) (suc (early_count t2 rest)) 0

module _ (t2 : ℕ) where
  pub early_low : (before : List (List Lift)) (ls : List Lift) (after : List (List Lift))
      → length before < early_count t2 (before ++ (ls ∷ after)) → S.start_time ls ≤ t2
  unfolding early_count
  early_low [] ls after l = go (leb (S.start_time ls) t2) refl l
    where
      go : (b : Bool) → leb (S.start_time ls) t2 ≡ b → 0 < cond b (suc (early_count t2 after)) 0 → S.start_time ls ≤ t2
      go true e l = leb-true (S.start_time ls) t2 e
      go false e l = absurd (omega arith)
  early_low (ms ∷ before) ls after l = go (leb (S.start_time ms) t2) l (early_low before ls after)
    where
      rest : ℕ
      rest = early_count t2 (before ++ (ls ∷ after))

      go : (b : Bool) → suc (length before) < cond b (suc rest) 0 → (length before < rest → S.start_time ls ≤ t2) → S.start_time ls ≤ t2
      go true l ih = ih (omega arith)
      go false l ih = absurd (omega arith)

  pub early_high : (before : List (List Lift)) (ls : List Lift) (after : List (List Lift)) {d n m : ℕ} → Segments d n (before ++ (ls ∷ after)) m
      → early_count t2 (before ++ (ls ∷ after)) ≤ length before → t2 < S.start_time ls
  unfolding early_count
  early_high [] ls after s l = go (leb (S.start_time ls) t2) refl l
    where
      go : (b : Bool) → leb (S.start_time ls) t2 ≡ b → cond b (suc (early_count t2 after)) 0 ≤ 0 → t2 < S.start_time ls
      go true e l = absurd (omega arith)
      go false e l = leb-false (S.start_time ls) t2 e
  early_high (ms ∷ before) ls after (G.more {l = x} {ls = xs} t r) l =
      go (leb (S.start_time (x ∷ xs)) t2) refl l (early_high before ls after r) (live_below ((x ∷ xs) ∷ before) ls after [] 0 (G.more t r))
    where
      rest : ℕ
      rest = early_count t2 (before ++ (ls ∷ after))

      go : (b : Bool) → leb (S.start_time (x ∷ xs)) t2 ≡ b → cond b (suc rest) 0 ≤ suc (length before) → (rest ≤ length before → t2 < S.start_time ls)
          → S.start_time (x ∷ xs) ≤ S.start_time ls → t2 < S.start_time ls
      go true e l ih up = ih (omega arith)
      go false e l ih up = omega (arith, leb-false (S.start_time (x ∷ xs)) t2 e)
