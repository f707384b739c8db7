-- How many moves a skip walk has left, by the levels of serials: a pointer of level 4 leads to every eighth serial, and each level below has at
-- most one move more. Assumes nothing.
use mathlib.Core.Path.{◌≡◌, sym, ap, ◌∙◌}
use Prim.Native.Nat.{ℕ, zero, suc, ◌+◌, ◌-◌, ◌*◌, ◌/◌, ◌%◌, ◌^◌, ◌≤◌, ◌<◌}
use native.Mathlib.Decide.{dec_le}
use native.Mathlib.Nat.{pow-suc, div-div-eq-div-mul, div-mul-le_self, le-div_iff_mul-le, div-lt_iff_lt-mul, mul-mod_left, div-add-mod'}
use native.Mathlib.Omega.{arith}
use lib.Pow.{pow_pos}
use Rattle.skiplist.specs.Skip.{level_of}
use Rattle.skiplist.proofs.Levels.{level_divides, divides_level}
use Rattle.refinement.specs.Rules.{header_pages_most}

-- at a level, behind serial `top`, where the serials from `late` on start after t2: one for each of these that has the level, and one for each
-- level below
unfoldable pub moves_left : ℕ → ℕ → ℕ → ℕ
moves_left zero late top = 0
moves_left (suc k) late top = (top - 1) / 2 ^ k - (late - 1) / 2 ^ k + k

-- no serial from one up to another has a level above k
abbrev pub NoneAbove : ℕ → ℕ → ℕ → Type 0
NoneAbove k from to = (s : ℕ) → from ≤ s → s < to → level_of s ≤ k

-- ---- multiples of d

module _ (d : ℕ) (some : 1 ≤ d) where
  -- none from one number up to another
  none_by : (from to : ℕ) → 1 ≤ from → ((s : ℕ) → from ≤ s → s < to → s % d ≡ 0 → ⊥) → (to - 1) / d ≤ (from - 1) / d
  none_by from to f none = go (dec_le from s)
    where
      s : ℕ
      s = (to - 1) / d * d

      below : s ≤ to - 1
      below = div-mul-le_self (to - 1) d

      go : Dec (from ≤ s) → (to - 1) / d ≤ (from - 1) / d
      go (yes l) = absurd (none s l (omega (arith, below)) (mul-mod_left ((to - 1) / d) d))
      go (no l) = (le-div_iff_mul-le some).1 (omega arith)

  -- a multiple is one more than those below it
  one_by : (n m : ℕ) → 1 ≤ n → n % d ≡ 0 → n ≤ m → (n - 1) / d + 1 ≤ m / d
  one_by n m f e l =
      let whole : n ≡ n / d * d = sym (div-add-mod' n d) ∙ (let z : n / d * d + n % d ≡ n / d * d = omega arith in z) in
      let a : (n - 1) / d < n / d = (div-lt_iff_lt-mul some).1 (omega arith) in
      let b : n / d ≤ m / d = (le-div_iff_mul-le some).1 (omega arith) in
      omega arith

-- ---- moves

module _ (late top : ℕ) (some : 1 ≤ late) (k : ℕ) (few : k < 4) where
  -- a move onto a late serial with a level above k
  pub move_less : (next : ℕ) → next < top → late ≤ next → k < level_of next → moves_left (suc k) late next + 1 ≤ moves_left (suc k) late top
  unfolding moves_left
  move_less next l m h =
      let d = 2 ^ k in
      let a = one_by d (pow_pos k) next (top - 1) (omega arith) (level_divides k next h) (omega arith) in
      let b : (late - 1) / d ≤ (next - 1) / d =
      (le-div_iff_mul-le (pow_pos k)).1 (omega (arith, div-mul-le_self (late - 1) d)) in
      omega arith

  -- none that is late has such a level: one level down
  pub down_less : NoneAbove k late top → moves_left k late top ≤ moves_left (suc k) late top
  unfolding moves_left
  down_less f = go k few (none_by (2 ^ k) (pow_pos k) late top some (λ s a b e. omega (arith, f s a b, divides_level k s few e)))
    where
      go : (j : ℕ) → j < 4 → (top - 1) / 2 ^ j ≤ (late - 1) / 2 ^ j → moves_left j late top ≤ (top - 1) / 2 ^ j - (late - 1) / 2 ^ j + j
      go zero l h = omega arith
      go (suc j) l h =
          let a = half j (top - 1) in
          let b = half j (late - 1) in
          omega arith
        where
          half : (j n : ℕ) → n / 2 ^ suc j ≡ n / 2 ^ j / 2
          half j n = ap (λ (m : ℕ). n / m) (pow-suc 2 j) ∙ sym (div-div-eq-div-mul n (2 ^ j) 2)

-- from level 4 on: "S/8 rounded up, plus 3"
pub moves_most : (late top slots : ℕ) → top ≤ late + slots → moves_left 4 late top ≤ header_pages_most slots
unfolding moves_left
moves_most late top slots h = omega arith
