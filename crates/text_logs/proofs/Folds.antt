-- Two imports of one text agree, whatever their stores are, where a relation between the stores has it that the numbers agree and that an accepted
-- append keeps it. By induction over the lines. Assumes nothing.
use mathlib.Core.Path.{◌≡◌, refl, ap}
use mathlib.Core.Bool.{Bool, true, false, cond}
use mathlib.Core.Option.{Option, none, some}
use mathlib.Core.List.{List, [], ◌∷◌}
use Prim.Native.Nat.{ℕ, suc}
use lib.Dec.{eqb}
use Rattle.lift_text.specs.Text.{Told}
use Rattle.csv_text.specs.Grammar.{lines_of, has_heading, after_first, record_in}
use Rattle.import.specs.Fold.{Imported, bad_form, line_number, line_after, import_lines, import_text}
use Rattle.text_logs.specs.TextLog.{Alike}

module _ {X Y : Type 0} (R : X → Y → Type 0) (before : X → ℕ) (number : X → Told → ℕ) (after : X → Told → X)
    (before' : Y → ℕ) (number' : Y → Told → ℕ) (after' : Y → Told → Y)
    (same_before : (x : X) (y : Y) → R x y → before x ≡ before' y)
    (same_number : (x : X) (y : Y) → R x y → (t : Told) → number x t ≡ number' y t)
    (related : (x : X) (y : Y) → R x y → (t : Told) → R (after x t) (after' y t)) where
  -- by the test of the number, which is one for both
  either : (t : Bool) (i k : Imported X) (j l : Imported Y) → Alike R i j → Alike R k l → Alike R (cond t i k) (cond t j l)
  either true i k j l a b = a
  either false i k j l a b = b

  stopped : (n m line : ℕ) (x : X) (y : Y) → n ≡ m → R x y
      → Alike R (record { number = n; line = line; left = x }) (record { number = m; line = line; left = y })
  stopped n m line x y e r = record { number = e; line = refl; left = r }

  line_number_lem : (x : X) (y : Y) → R x y → (o : Option Told) → line_number before number after x o ≡ line_number before' number' after' y o
  line_number_lem x y r none = ap (λ n. cond (eqb n 0) bad_form n) (same_before x y r)
  line_number_lem x y r (some t) = same_number x y r t

  line_after_lem : (x : X) (y : Y) → R x y → (o : Option Told) → R (line_after before number after x o) (line_after before' number' after' y o)
  line_after_lem x y r none = r
  line_after_lem x y r (some t) = related x y r t

  lines_alike : (line : ℕ) (ls : List (List ℕ)) (x : X) (y : Y) → R x y
      → Alike R (import_lines before number after line ls x) (import_lines before' number' after' line ls y)
  unfolding import_lines
  lines_alike line [] x y r = record { number = refl; line = refl; left = r }
  lines_alike line (l ∷ ls) x y r =
      let o : Option Told = record_in l in
      let n = line_number_lem x y r o in
      rw n (either (eqb (line_number before' number' after' y o) 0) _ _ _ _
      (lines_alike (suc line) ls (line_after before number after x o) (line_after before' number' after' y o) (line_after_lem x y r o))
      (stopped _ _ line x y refl r))

  pub texts_alike : (text : List ℕ) (x : X) (y : Y) → R x y → Alike R (import_text before number after text x) (import_text before' number' after' text y)
  unfolding import_text
  texts_alike text x y r =
      let n = same_before x y r in
      rw n (either (eqb (before' y) 0) _ _ _ _
      (either (has_heading (lines_of text)) _ _ _ _ (lines_alike 2 (after_first (lines_of text)) x y r) (stopped bad_form bad_form 1 x y refl r))
      (stopped _ _ 0 x y refl r))
