-- Binary digits under `|`, under the subtraction of a power, and below the lowest set one: by halving the number.
use mathlib.Core.Path.{◌≡◌, refl, sym, ap, ◌∙◌}
use mathlib.Core.Logic.{◌≢◌}
use mathlib.Core.List.{List}
use Prim.Native.Nat.{ℕ, zero, suc, ◌+◌, ◌-◌, ◌*◌, ◌/◌, ◌%◌, ◌^◌, ◌≤◌, ◌<◌, max}
use native.Mathlib.Nat.{div-eq_of_lt}
use native.Mathlib.Decide.{dec_lt, ℕ_discrete}
use native.Mathlib.Omega.{arith}
use lib.Bits.{bit_or, or_step, or_shr}
use lib.Count.{count_trailing_zeros, under}
use lib.ListN.{length, get_or, set}
use lib.Pow.{pow-lt, pow-add, shl-shr, shr-shr}
use lib.Seq.{get_or-set_same, get_or-set_other}
use Rattle.bitset.specs.Inner.Words.{bit}

pub bit_suc : (x j : ℕ) → bit x (suc j) ≡ bit (x / 2) j
bit_suc x j = let e : suc j ≡ 1 + j = omega arith in ap (bit x) e ∙ ap (λ (n : ℕ). n % 2) (sym (shr-shr x 1 j))

pub bit_zero : (j : ℕ) → bit 0 j ≡ 0
bit_zero zero = refl
bit_zero (suc j) = bit_suc 0 j ∙ bit_zero j

-- ---- `|` with a power sets a digit and leaves the others

odd_or : (a b : ℕ) → bit_or a b % 2 ≡ max (a % 2) (b % 2)
odd_or a b = omega (arith, or_step a b)

or_bit : (a b j : ℕ) → bit (bit_or a b) j ≡ max (bit a j) (bit b j)
or_bit a b j = ap (λ (n : ℕ). n % 2) (or_shr a b j) ∙ odd_or (a / 2 ^ j) (b / 2 ^ j)

pow_self : (k : ℕ) → 2 ^ k / 2 ^ k ≡ 1
pow_self k = let e : 1 * 2 ^ k ≡ 2 ^ k = omega arith in rw e at (shl-shr 1 k)

pow_above : (j d : ℕ) → bit (2 ^ (suc d + j)) j ≡ 0
pow_above j d =
    ap (λ (n : ℕ). n / 2 ^ j % 2) (pow-add 2 (suc d) j) ∙ ap (λ (n : ℕ). n % 2) (shl-shr (2 ^ suc d) j) ∙ omega arith

pow_other : (k j : ℕ) → k ≢ j → bit (2 ^ k) j ≡ 0
pow_other k j h = go (dec_lt k j)
  where
    go : Dec (k < j) → bit (2 ^ k) j ≡ 0
    go (yes p) = ap (λ (n : ℕ). n % 2) (div-eq_of_lt (pow-lt p))
    go (no f) = let e : k ≡ suc (k - suc j) + j = omega arith in ap (λ (n : ℕ). bit (2 ^ n) j) e ∙ pow_above j (k - suc j)

pub or_same : (n k : ℕ) → bit (bit_or n (2 ^ k)) k ≡ 1
or_same n k = omega (arith, or_bit n (2 ^ k) k, pow_self k)

pub or_other : (n k j : ℕ) → k ≢ j → bit (bit_or n (2 ^ k)) j ≡ bit n j
or_other n k j h = omega (arith, or_bit n (2 ^ k) j, pow_other k j h)

-- ---- the subtraction of a set digit's power clears it and leaves the others

pub power_within : (k x : ℕ) → bit x k ≡ 1 → 2 ^ k ≤ x
power_within zero x h = omega arith
power_within (suc k) x h = omega (arith, power_within k (x / 2) (sym (bit_suc x k) ∙ h))

module _ (k x : ℕ) (h : bit x (suc k) ≡ 1) where
  half_within : 2 ^ k ≤ x / 2
  half_within = power_within k (x / 2) (sym (bit_suc x k) ∙ h)

  half_clear : (x - 2 ^ suc k) / 2 ≡ x / 2 - 2 ^ k
  half_clear = omega (arith, half_within)

  low_clear : (x - 2 ^ suc k) % 2 ≡ x % 2
  low_clear = omega (arith, half_within)

pub clear_same : (k x : ℕ) → bit x k ≡ 1 → bit (x - 2 ^ k) k ≡ 0
clear_same zero x h = omega arith
clear_same (suc k) x h =
    bit_suc (x - 2 ^ suc k) k ∙ ap (λ (n : ℕ). bit n k) (half_clear k x h) ∙ clear_same k (x / 2) (sym (bit_suc x k) ∙ h)

pub clear_other : (k j x : ℕ) → k ≢ j → bit x k ≡ 1 → bit (x - 2 ^ k) j ≡ bit x j
clear_other zero zero x n h = absurd (n refl)
clear_other zero (suc j) x n h =
    let e : (x - 1) / 2 ≡ x / 2 = omega arith in
    bit_suc (x - 1) j ∙ ap (λ (n : ℕ). bit n j) e ∙ sym (bit_suc x j)
clear_other (suc k) zero x n h = omega (arith, low_clear k x h)
clear_other (suc k) (suc j) x n h =
    bit_suc (x - 2 ^ suc k) j ∙ ap (λ (n : ℕ). bit n j) (half_clear k x h)
    ∙ clear_other k j (x / 2) (λ e. n (ap suc e)) (sym (bit_suc x k) ∙ h) ∙ sym (bit_suc x j)

-- ---- the count of trailing zeros is the place of the lowest set digit

pub trailing_clear : (k x j : ℕ) → j < count_trailing_zeros k x → bit x j ≡ 0
unfolding count_trailing_zeros
trailing_clear zero x j h = absurd (omega arith)
trailing_clear (suc k) x zero h = go (x % 2) refl h
  where
    go : (d : ℕ) → x % 2 ≡ d → 0 < under d (count_trailing_zeros k (x / 2)) → bit x 0 ≡ 0
    go zero e l = omega arith
    go (suc d) e l = absurd (omega arith)
trailing_clear (suc k) x (suc j) h = bit_suc x j ∙ go (x % 2) h (trailing_clear k (x / 2) j)
  where
    go : (d : ℕ) → suc j < under d (count_trailing_zeros k (x / 2)) → (j < count_trailing_zeros k (x / 2) → bit (x / 2) j ≡ 0)
        → bit (x / 2) j ≡ 0
    go zero l rest = rest (omega arith)
    go (suc d) l rest = absurd (omega arith)

pub record Lowest (k x : ℕ) : Type 0 where
  pub below : count_trailing_zeros k x < k
  pub is_set_lem : bit x (count_trailing_zeros k x) ≡ 1

pub lowest : (k x : ℕ) → 0 < x → x < 2 ^ k → Lowest k x
unfolding count_trailing_zeros
lowest zero x p h = absurd (omega arith)
lowest (suc k) x p h = go (x % 2) refl (λ q. lowest k (x / 2) q (omega arith))
  where
    go : (d : ℕ) → x % 2 ≡ d → (0 < x / 2 → Lowest k (x / 2)) → Lowest (suc k) x
    go zero e rest =
        let i = rest (omega arith) in
        let z : count_trailing_zeros (suc k) x ≡ suc (count_trailing_zeros k (x / 2)) = rw e in
        record { below = omega (arith, z, i.below); is_set_lem = rw z (bit_suc x (count_trailing_zeros k (x / 2)) ∙ i.is_set_lem) }
    go (suc d) e rest =
        let z : count_trailing_zeros (suc k) x ≡ 0 = rw e in
        record { below = omega (arith, z); is_set_lem = rw z (omega arith) }

-- ---- one number of a list changed

-- digit m of number j stays where the new number i has it too
pub cell_other : (s : List ℕ) (i v j m : ℕ) → i < length s → (j ≡ i → bit v m ≡ bit (get_or s i 0) m)
    → bit (get_or (set s i v) j 0) m ≡ bit (get_or s j 0) m
cell_other s i v j m l h = go (ℕ_discrete j i)
  where
    go : Dec (j ≡ i) → bit (get_or (set s i v) j 0) m ≡ bit (get_or s j 0) m
    go (yes e) = rw (e, get_or-set_same s i v 0 l) (h e)
    go (no f) = rw (get_or-set_other s i j v 0 f)

pub or_cell_same : (s : List ℕ) (i k : ℕ) → i < length s → bit (get_or (set s i (bit_or (get_or s i 0) (2 ^ k))) i 0) k ≡ 1
or_cell_same s i k l = rw (get_or-set_same s i (bit_or (get_or s i 0) (2 ^ k)) 0 l) (or_same (get_or s i 0) k)

pub or_cell_other : (s : List ℕ) (i k j m : ℕ) → i < length s → (j ≡ i → k ≢ m)
    → bit (get_or (set s i (bit_or (get_or s i 0) (2 ^ k))) j 0) m ≡ bit (get_or s j 0) m
or_cell_other s i k j m l h = cell_other s i _ j m l (λ e. or_other (get_or s i 0) k m (h e))
