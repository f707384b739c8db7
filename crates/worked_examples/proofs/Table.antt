-- The paper's worked examples, "Proved together as a table with a single theorem": every definition computes. Assumes nothing.
use mathlib.Core.Path.{◌≡◌, refl}
use mathlib.Core.List.{map}
use lib.Count.{count_trailing_zeros}
use lib.IntN.{ℤ}
use Rattle.bloom.specs.Bloom.{multiplier, bloom_bit}
use Rattle.lift.specs.Limits.{stored}
use Rattle.plate.specs.Total.{total}
use Rattle.plate.specs.Stack.{sum_down_to, last_end, end_of, ends_from, ends_of, plate_by}
use Rattle.plate.specs.Plate.{plate_of, count_at, counts_from, counts_of}
use Rattle.skiplist.specs.Skip.{level_of}
use Rattle.split.specs.Split.{overlap, rule, bring, mid, sum, weighed, slope, fitted, low_from, high_from, low, high, midpoint}
use Rattle.worked_examples.specs.Examples.{examples}

pub worked_examples : (l h : ℤ) → map (λ (row : ℤ × ℤ). row.0) (examples l h) ≡ map (λ (row : ℤ × ℤ). row.1) (examples l h)
unfolding examples
    total sum_down_to last_end end_of ends_from ends_of plate_by plate_of count_at counts_from counts_of level_of count_trailing_zeros multiplier bloom_bit
    stored midpoint mid overlap rule bring low high low_from high_from fitted slope weighed sum
worked_examples l h = refl
