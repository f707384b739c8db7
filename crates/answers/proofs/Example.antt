-- By computation: what the example of document 01, "Program", prints, its four lines. Assumes nothing.
use mathlib.Core.Path.{◌≡◌, refl}
use mathlib.Core.List.{List, [], ◌∷◌, ◌++◌}
use Prim.Native.Nat.{ℕ}
use lib.IntN.{pos}
use lib.ListN.{replicate}
use Rattle.codec.specs.Area.{repeated}
use Rattle.answers.specs.Printed.{digits, digits_within, justified, head_bytes, count_bytes, load_bytes, lift_bytes}

abbrev spaces : ℕ → List ℕ → List ℕ
spaces n l = replicate n 32 ++ l

-- 48 to 57 are the digits, 65 is A, 81 is Q
pub printed :
    (head_bytes 65 0 ≡ 65 ∷ 32 ∷ 32 ∷ 48 ∷ [])
    × (head_bytes 81 0 ++ count_bytes 1 ≡ 81 ∷ 32 ∷ 32 ∷ 48 ∷ spaces 6 (49 ∷ []))
    × (lift_bytes 2000 (pos 751) ≡ spaces 11 (50 ∷ 48 ∷ 48 ∷ 48 ∷ spaces 5 (55 ∷ 53 ∷ 49 ∷ [])))
unfolding digits digits_within justified repeated load_bytes
printed = (refl, refl, refl)
