-- A serial has a level above k, below the highest, exactly where 2ᵏ divides it. By induction on the trailing zero bits. Assumes nothing.
use mathlib.Core.Path.{◌≡◌, refl, sym, ap, ◌∙◌}
use Prim.Native.Nat.{ℕ, zero, suc, ◌+◌, ◌*◌, ◌/◌, ◌%◌, ◌^◌, ◌≤◌, ◌<◌}
use native.Mathlib.Nat.{pow-suc}
use native.Mathlib.Omega.{arith}
use lib.Arith.{mod-mul}
use lib.Count.{count_trailing_zeros, under}
use lib.Pow.{pow_pos}
use Rattle.skiplist.specs.Skip.{level_of}

-- one bit more: the lowest one, and the rest
pow_mod : (k n : ℕ) → n % 2 ^ suc k ≡ (n / 2 % 2 ^ k) * 2 + n % 2
pow_mod k n = ap (λ (m : ℕ). n % m) (pow-suc 2 k) ∙ mod-mul n {m = 2 ^ k} {c = 2} (pow_pos k) (omega arith)

trailing_divides : (w k n : ℕ) → k ≤ count_trailing_zeros w n → n % 2 ^ k ≡ 0
unfolding count_trailing_zeros
trailing_divides w zero n h = omega arith
trailing_divides zero (suc k) n h = absurd (omega arith)
trailing_divides (suc w) (suc k) n h = go (n % 2) refl h (trailing_divides w k (n / 2))
  where
    go : (d : ℕ) → n % 2 ≡ d → suc k ≤ under d (count_trailing_zeros w (n / 2)) → (k ≤ count_trailing_zeros w (n / 2) → n / 2 % 2 ^ k ≡ 0) → n % 2 ^ suc k ≡ 0
    go zero e h ih = pow_mod k n ∙ rw (ih (omega arith), e)
    go (suc d) e h ih = absurd (omega arith)

divides_trailing : (w k n : ℕ) → k ≤ w → n % 2 ^ k ≡ 0 → k ≤ count_trailing_zeros w n
unfolding count_trailing_zeros
divides_trailing w zero n l h = omega arith
divides_trailing zero (suc k) n l h = absurd (omega arith)
divides_trailing (suc w) (suc k) n l h = go (n % 2) refl (sym (pow_mod k n) ∙ h) (divides_trailing w k (n / 2) (omega arith))
  where
    go : (d : ℕ) → n % 2 ≡ d → (n / 2 % 2 ^ k) * 2 + n % 2 ≡ 0 → (n / 2 % 2 ^ k ≡ 0 → k ≤ count_trailing_zeros w (n / 2))
        → suc k ≤ under d (count_trailing_zeros w (n / 2))
    go zero e f ih = omega (arith, ih (omega arith))
    go (suc d) e f ih = absurd (omega arith)

pub level_divides : (k n : ℕ) → k < level_of n → n % 2 ^ k ≡ 0
unfolding level_of
level_divides k n h = trailing_divides 32 k n (omega arith)

pub divides_level : (k n : ℕ) → k < 4 → n % 2 ^ k ≡ 0 → k < level_of n
unfolding level_of
divides_level k n l h = omega (arith, divides_trailing 32 k n (omega arith) h)
