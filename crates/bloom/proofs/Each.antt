-- A list made by a rule over consecutive numbers: its length, its elements, and two rules that agree.
use mathlib.Core.Path.{◌≡◌, refl, ap, ◌∙◌}
use Prim.Native.Nat.{ℕ, zero, suc, ◌+◌, ◌≤◌, ◌<◌}
use native.Mathlib.Omega.{arith}
use lib.ListN.{length, get_or}
use Rattle.bloom.specs.Pages.{each}

module _ {ℓ} {A : Type ℓ} where
  pub length_each : (f : ℕ → A) (from n : ℕ) → length (each f from n) ≡ n
  unfolding each
  length_each f from zero = refl
  length_each f from (suc n) = ap suc (length_each f (suc from) n)

  pub get_or_each : (f : ℕ → A) (from n i : ℕ) (d : A) → i < n → get_or (each f from n) i d ≡ f (from + i)
  unfolding each
  get_or_each f from zero i d h = absurd (omega arith)
  get_or_each f from (suc n) zero d h = let e : from ≡ from + 0 = omega arith in ap f e
  get_or_each f from (suc n) (suc i) d h =
      let e : suc from + i ≡ from + suc i = omega arith in
      get_or_each f (suc from) n i d (omega arith) ∙ ap f e

  pub each_same : (f g : ℕ → A) (from n : ℕ) → ((i : ℕ) → from ≤ i → i < from + n → f i ≡ g i) → each f from n ≡ each g from n
  unfolding each
  each_same f g from zero h = refl
  each_same f g from (suc n) h =
      rw (h from (omega arith) (omega arith), each_same f g (suc from) n (λ i a b. h i (omega arith) (omega arith)))
