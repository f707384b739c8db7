-- By computation: lines of a service page (document 02, W-201). Assumes nothing.
use mathlib.Core.Path.{◌≡◌, refl}
use mathlib.Core.List.{List, [], ◌∷◌, ◌++◌}
use Prim.Native.Nat.{ℕ}
use lib.ListN.{replicate}
use Rattle.codec.specs.Area.{repeated}
use Rattle.answers.specs.Printed.{digits, digits_within, justified}
use Rattle.service_page.specs.Page.{heading, percentage, plate_line, total_line}

abbrev spaces : ℕ → List ℕ → List ℕ
spaces n l = replicate n 32 ++ l

-- a window of three lifts, two of them on plate 5
pub page_printed :
    (heading 1000 3000 ≡ spaces 11 (49 ∷ 48 ∷ 48 ∷ 48 ∷ spaces 21 (51 ∷ 48 ∷ 48 ∷ 48 ∷ [])))
    × (plate_line 3 21 0 ≡ spaces 2 (50 ∷ 49 ∷ spaces 8 (48 ∷ spaces 4 (48 ∷ spaces 22 []))))
    × (plate_line 3 5 2 ≡ spaces 3 (53 ∷ spaces 8 (50 ∷ spaces 3 (54 ∷ 54 ∷ spaces 22 []))))
    × (total_line 3 ≡ spaces 12 (51 ∷ spaces 27 []))
unfolding digits digits_within justified repeated heading percentage plate_line total_line
page_printed = (refl, refl, refl, refl)
