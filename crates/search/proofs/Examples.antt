-- Worked examples of a search's answer (document 01, "Search", grounds 10 and 12): each row computes to the figure worked out by hand.
-- Assumes nothing.
use mathlib.Core.Path.{◌≡◌, refl}
use mathlib.Core.List.{List, [], ◌∷◌, ◌++◌}
use mathlib.Core.Option.{none, some}
use Prim.Native.Nat.{ℕ}
use lib.ListN.{replicate}
use Rattle.codec.specs.Area.{splice}
use Rattle.found.specs.Pages.{no_pages}
use Rattle.search.specs.Answers.{row_bytes, search_answer}

-- a record whose bytes differ at its ends
abbrev row : List ℕ
row = 1 ∷ (replicate 30 5 ++ (2 ∷ []))

-- "The lifts found outnumber the whole 32-byte rows of the result area": 63 bytes have room for one, 64 for two; none always fit. Damage
-- is 10.
numbers :
    (search_answer (replicate 63 9) no_pages (some (replicate 2 row))).number
    ∷ (search_answer (replicate 64 9) no_pages (some (replicate 2 row))).number
    ∷ (search_answer (replicate 31 9) no_pages (some (replicate 1 row))).number
    ∷ (search_answer [] no_pages (some [])).number
    ∷ (search_answer [] no_pages none).number
    ∷ [] ≡ 12 ∷ 0 ∷ 12 ∷ 0 ∷ 10 ∷ []
unfolding search_answer row_bytes splice
numbers = refl

-- rows from the area's start, "the rest of the result area keeps its bytes"
area : (search_answer (replicate 65 9) no_pages (some (row ∷ []))).area ≡ row ++ replicate 33 9
unfolding search_answer row_bytes splice
area = refl
