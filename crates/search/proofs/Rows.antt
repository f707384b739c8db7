-- Rows of one width side by side: their length, row k, and rows behind rows. Assumes nothing.
use mathlib.Core.Path.{◌≡◌, refl, sym, ap, ◌∙◌}
use mathlib.Core.List.{List, [], ◌∷◌, ◌++◌, append_assoc}
use Prim.Native.Nat.{ℕ, zero, suc, ◌+◌, ◌*◌, ◌≤◌, ◌<◌}
use native.Mathlib.Nat.{mul-le-mul_right}
use native.Mathlib.Omega.{arith}
use lib.ListN.{length, get_or, length-append}
use Rattle.codec.specs.Area.{part}
use Rattle.codec.proofs.Areas.{part_append_left, part_append_right, part_all}
use Rattle.found.proofs.Wide.{Wide}
use Rattle.search.specs.Answers.{row_bytes}

pub length_rows : (w : ℕ) (rows : List (List ℕ)) → Wide w rows → length (row_bytes rows) ≡ length rows * w
unfolding row_bytes
length_rows w [] h = omega arith
length_rows w (r ∷ rows) h = length-append r (row_bytes rows) ∙ omega (arith, h.0, length_rows w rows h.1)

pub rows_append : (a b : List (List ℕ)) → row_bytes (a ++ b) ≡ row_bytes a ++ row_bytes b
unfolding row_bytes
rows_append [] b = refl
rows_append (r ∷ a) b = ap (λ (l : List ℕ). r ++ l) (rows_append a b) ∙ sym (append_assoc r (row_bytes a) (row_bytes b))

-- row k
pub row_at : (w : ℕ) (rows : List (List ℕ)) → Wide w rows → (k : ℕ) (d : List ℕ) → k < length rows
    → part (row_bytes rows) (k * w) w ≡ get_or rows k d
unfolding row_bytes
row_at w [] h k d l = absurd (omega arith)
row_at w (r ∷ rows) h zero d l =
    let z : 0 * w ≡ 0 = omega arith in
    rw z (part_append_left r (row_bytes rows) 0 w (omega (arith, h.0)) ∙ part_all r w h.0)
row_at w (r ∷ rows) h (suc k) d l =
    part_append_right r (row_bytes rows) (k * w) (suc k * w) w (omega (arith, h.0)) (room k (omega arith)) ∙ row_at w rows h.1
    k d (omega arith)
  where
    room : (k : ℕ) → k < length rows → k * w + w ≤ length (row_bytes rows)
    room k l = omega (arith, length_rows w rows h.1, mul-le-mul_right {m = suc k} w l)
