-- The stacks that are carried, and the lookup by a stack's place (document 02, W-205). Assumes nothing.
use Rattle.std.specs.Prelude.{cond, List, [], ◌∷◌, ◌++◌, ℕ, ltb, ℤ, length, get_or, replicate}
use Rattle.lift.specs.Limits.{load_ok}
use Rattle.plate.specs.Lookup.{Lookup}
use Rattle.plate.specs.Stack.{plate_on}
use Rattle.plate.specs.Plate.{twenty_of500}

-- "We carry twenty plates of 500, then four of 250 over sixteen of 500."
abbrev pub four_of250_over16_of500 : List ℕ
four_of250_over16_of500 = replicate 4 250 ++ replicate 16 500

abbrev pub carried : List (List ℕ)
carried = twenty_of500 ∷ four_of250_over16_of500 ∷ []

-- "The lookup takes a stack's place in the list, from 0": number 0 and the plate; 5 for a load past its limit; then 15, "a place beyond
-- it"
unfoldable pub lookup : ℕ → ℤ → Lookup
lookup place load =
    cond (load_ok load)
    (cond (ltb place (length carried)) (record { number = 0; plate = plate_on (get_or carried place []) load })
    (record { number = 15; plate = 0 }))
    (record { number = 5; plate = 0 })
