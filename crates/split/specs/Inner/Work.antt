-- The numbers of the code's work: an integer and 3,000,000, so that no number of the rules is below 0. Assumes nothing.
use Rattle.std.specs.Prelude.{◌≡◌, ℕ, ◌≤◌, ℤ}
use Rattle.std.proofs.Math.IntN.{sub_ℕ}
use Rattle.split.specs.Split.{low_from, high_from}

-- the integer that a number of the work stands for
abbrev pub value_of : ℕ → ℤ
value_of n = sub_ℕ n 3000000

-- l and h stand for what A and D predict
pub record Predicts (a d : ℤ) (l h : ℕ) : Type 0 where
  pub low : value_of l ≡ low_from a d
  pub high : value_of h ≡ high_from a d
  pub small_low : l ≤ 9000000
  pub small_high : h ≤ 9000000

-- a range and a prediction whose sums do not wrap
pub record Small (x y l h : ℕ) : Type 0 where
  pub small_x : x ≤ 4000000
  pub small_y : y ≤ 4000000
  pub small_l : l ≤ 9000000
  pub small_h : h ≤ 9000000
