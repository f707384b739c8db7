-- Stacks of uneven plates (document 02, W-205 and W-206): where the band of each plate ends. A stack is the list of its plates, top first.
-- Assumes nothing.
use Rattle.std.specs.Prelude.{Bool, true, cond, ◌&&◌, ◌||◌, List, [], ◌∷◌, ℕ, zero, suc, ◌+◌, ◌-◌, ◌/◌, leb, eqb, ℤ, pos, length, get_or, take}
use Rattle.std.specs.Int.Signed.{lt_z, le_z}
use Rattle.plate.specs.Total.{total}

-- ---- the sizes: "A stack has 1 to 24 plates of 100 to 5,000 units each."

abbrev pub most_plates : ℕ
most_plates = 24

abbrev pub is_plate : ℕ → Bool
is_plate p = leb 100 p && leb p 5000

unfoldable pub all_plates : List ℕ → Bool
all_plates [] = true
all_plates (p ∷ ps) = is_plate p && all_plates ps

unfoldable pub is_stack : List ℕ → Bool
is_stack stack = (leb 1 (length stack) && leb (length stack) most_plates) && all_plates stack

-- ---- the rule

-- "the sum down to" plate n: of the first n plates
unfoldable pub sum_down_to : List ℕ → ℕ → ℕ
sum_down_to stack n = total (take n stack)

-- "a last end half the last plate, rounded down, above the full sum"
unfoldable pub last_end : List ℕ → ℕ
last_end stack = total stack + get_or stack (length stack - 1) 0 / 2

-- "Plate 0 ends at half the first plate, rounded down. A plate's band ends halfway, rounded down, between the sum down to it and the
-- sum down to the next"; the last plate's at the last end
unfoldable pub end_of : List ℕ → ℕ → ℕ
end_of stack zero = get_or stack 0 0 / 2
end_of stack (suc n) =
    cond (eqb (suc n) (length stack)) (last_end stack) ((sum_down_to stack (suc n) + sum_down_to stack (suc (suc n))) / 2)

-- the ends of k plates from n on
unfoldable pub ends_from : List ℕ → ℕ → ℕ → List ℕ
ends_from stack zero n = []
ends_from stack (suc k) n = end_of stack n ∷ ends_from stack k (suc n)

-- of plate 0 and of each plate of the stack: m plates have m + 1 ends
unfoldable pub ends_of : List ℕ → List ℕ
ends_of stack = ends_from stack (suc (length stack)) 0

-- ---- the bands

-- the load is past the end of the plate above
unfoldable pub past_above : List ℕ → ℕ → ℤ → Bool
past_above stack zero load = true
past_above stack (suc n) load = lt_z (pos (end_of stack n)) load

-- the load lies in the band of plate n; the band beyond the stack has no end
unfoldable pub in_band_of : List ℕ → ℕ → ℤ → Bool
in_band_of stack n load = past_above stack n load && (eqb n (suc (length stack)) || le_z load (pos (end_of stack n)))

-- the plate of a load by the ends of the bands: the first that the load is not past; past all of them the one beyond the stack
unfoldable pub plate_by : List ℕ → ℤ → ℕ
plate_by [] load = 0
plate_by (end ∷ ends) load = cond (le_z load (pos end)) 0 (suc (plate_by ends load))

-- the plate of a load on a stack
abbrev pub plate_on : List ℕ → ℤ → ℕ
plate_on stack load = plate_by (ends_of stack) load
