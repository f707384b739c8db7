-- The one rule from a bucket's number to its page and offset: buckets stand side by side in the tree's area, 128 bytes each.
use mathlib.Core.Path.{◌≡◌}
use Prim.Native.Nat.{ℕ, ◌*◌}
use native.Mathlib.Omega.{arith}
use Rattle.tree.specs.Place.{bucket_start}

pub bucket_start_lem : (b : ℕ) → bucket_start b ≡ 128 * b
unfolding bucket_start
bucket_start_lem b = omega arith
