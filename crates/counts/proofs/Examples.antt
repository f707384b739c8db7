-- By computation, worked out by hand from the request: which place a lift changes at the ends of the bands, and what a count down gives.
-- Assumes nothing.
use mathlib.Core.Path.{◌≡◌, refl}
use mathlib.Core.Option.{none, some}
use mathlib.Core.List.{[], ◌∷◌, ◌++◌}
use lib.IntN.{pos, negsuc}
use lib.ListN.{replicate}
use Rattle.lift.specs.Limits.{stored}
use Rattle.plate.specs.Total.{total}
use Rattle.plate.specs.Stack.{sum_down_to, last_end, end_of, ends_from, ends_of, plate_by}
use Rattle.plate.specs.Plate.{plate_of, no_counts}
use Rattle.counts.specs.Counts.{one_more, one_less, counted_down}

-- the lift's plate at its upper end and just past it: 250 and 251, 10,250 and 10,251; an assisted lift is plate 0
pub upper_ends : (one_more no_counts (stored (pos 250)) ≡ 1 ∷ replicate 21 0) × (one_more no_counts (stored (pos 251)) ≡ 0 ∷ 1 ∷ replicate 20 0)
    × (one_more no_counts (stored (pos 10250)) ≡ replicate 20 0 ++ (1 ∷ 0 ∷ [])) × (one_more no_counts (stored (pos 10251)) ≡ replicate 21 0 ++ (1 ∷ []))
    × (one_more no_counts (stored (negsuc 49999)) ≡ 1 ∷ replicate 21 0)
unfolding one_more stored plate_of ends_of ends_from end_of last_end sum_down_to total plate_by
upper_ends = (refl, refl, refl, refl, refl)

-- less two lifts; a second lift of a plate that counts one; stored loads 0 and 150,002, past the limits, where the plate counts a lift
pub counted_examples : (counted_down (2 ∷ 1 ∷ replicate 20 0) (stored (pos 250) ∷ stored (pos 251) ∷ []) ≡ some (1 ∷ replicate 21 0))
    × (counted_down (1 ∷ replicate 21 0) (stored (pos 250) ∷ stored (negsuc 0) ∷ []) ≡ none)
    × (counted_down (1 ∷ replicate 21 0) (0 ∷ []) ≡ none) × (counted_down (replicate 21 0 ++ (1 ∷ [])) (150002 ∷ []) ≡ none)
    × (counted_down (replicate 21 0 ++ (1 ∷ [])) (150001 ∷ []) ≡ some no_counts)
unfolding counted_down one_less stored plate_of ends_of ends_from end_of last_end sum_down_to total plate_by
counted_examples = (refl, refl, refl, refl, refl)
