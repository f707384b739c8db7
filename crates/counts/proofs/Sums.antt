-- The counts added up by the library's sum. Assumes nothing.
use mathlib.Core.Path.{◌≡◌, refl}
use mathlib.Core.List.{List}
use Prim.Native.Nat.{ℕ}
use native.Mathlib.Omega.{arith}
use Rattle.std.specs.Prelude.{sum}
use Rattle.std.proofs.lemmas.Grind.{common_steps}
use Rattle.std.proofs.lemmas.List.Recursion.{is_sum_by}
use Rattle.plate.specs.Total.{total}

pub sum_total : (counts : List ℕ) → sum counts ≡ total counts
unfolding total
sum_total counts = grind (arith, common_steps, is_sum_by total (λ n. n) refl (λ _ _. refl))
