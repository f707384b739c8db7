-- "For twenty plates of 500 the rule gives the sticker of W-204" (document 02, W-205), and then 10,250 (W-206). Assumes nothing.
use mathlib.Core.Path.{◌≡◌, refl}
use mathlib.Core.Bool.{true}
use mathlib.Core.List.{[], ◌∷◌}
use Rattle.plate.specs.Total.{total}
use Rattle.plate.specs.Stack.{is_stack, all_plates, sum_down_to, last_end, end_of, ends_from, ends_of}
use Rattle.plate.specs.Plate.{twenty_of500}
use Rattle.plate.specs.Carried.{four_of250_over16_of500}

pub sticker :
    ends_of twenty_of500
    ≡ 250 ∷ 750 ∷ 1250 ∷ 1750 ∷ 2250 ∷ 2750 ∷ 3250 ∷ 3750 ∷ 4250 ∷ 4750 ∷ 5250 ∷ 5750 ∷ 6250 ∷ 6750 ∷ 7250 ∷ 7750 ∷ 8250 ∷ 8750
    ∷ 9250 ∷ 9750 ∷ 10250 ∷ []
unfolding ends_of ends_from end_of last_end sum_down_to total
sticker = refl

-- halves are rounded down: 101 / 2, (101 + 202) / 2, (202 + 453) / 2, and 453 + 251 / 2
pub uneven : ends_of (101 ∷ 101 ∷ 251 ∷ []) ≡ 50 ∷ 151 ∷ 327 ∷ 578 ∷ []
unfolding ends_of ends_from end_of last_end sum_down_to total
uneven = refl

pub carried_are_stacks : (is_stack twenty_of500 ≡ true) × (is_stack four_of250_over16_of500 ≡ true)
unfolding is_stack all_plates
carried_are_stacks = (refl, refl)
