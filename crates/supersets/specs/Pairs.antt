-- Supersets across two machines (document 02, W-208): which lift of the first log is paired with which of the second. A function on two
-- lists: "Each lift of the first machine, in turn, joins the first unused lift of the second" that fits it; "otherwise it stands alone".
-- Assumes nothing.
use Rattle.std.specs.Prelude.{Bool, cond, not, ◌&&◌, List, [], ◌∷◌, ◌++◌, map, ℕ, ◌+◌, eqb, leb, ltb}
use Rattle.std.proofs.Math.Option.{Option, none, some}
use Rattle.lift.specs.Record.{time_at, member_at}

-- ---- any two lists, and what fits what

module _ {A : Type 0} (fits : A → A → Bool) where
  -- the first of the unused that fits a
  unfoldable pub first_fit : A → List A → Option A
  first_fit a [] = none
  first_fit a (b ∷ bs) = cond (fits a b) (some b) (first_fit a bs)

  -- the unused without that one; all of them where none fits
  unfoldable pub without_fit : A → List A → List A
  without_fit a [] = []
  without_fit a (b ∷ bs) = cond (fits a b) bs (b ∷ without_fit a bs)

  -- a pair, or none
  abbrev pub pair_with : A → Option A → List (A × A)
  pair_with a none = []
  pair_with a (some b) = (a, b) ∷ []

  -- each of the first list, in turn, with the first unused one that fits it
  unfoldable pub pairs_of : List A → List A → List (A × A)
  pairs_of [] unused = []
  pairs_of (a ∷ rest) unused = pair_with a (first_fit a unused) ++ pairs_of rest (without_fit a unused)

-- ---- rows

-- "by the same member, other than 0, that is later by 1 to 30,000 ms"
unfoldable pub joins : List ℕ → List ℕ → Bool
joins a b =
    not (eqb (member_at a 0) 0) && eqb (member_at b 0) (member_at a 0)
    && (ltb (time_at a 0) (time_at b 0) && leb (time_at b 0) (time_at a 0 + 30000))

-- "each pair once, as its two records side by side (64 bytes), in the order of the first machine's lifts"
abbrev pub side_by_side : List ℕ × List ℕ → List ℕ
side_by_side p = p.0 ++ p.1

unfoldable pub pair_rows : List (List ℕ) → List (List ℕ) → List (List ℕ)
pair_rows first second = map side_by_side (pairs_of joins first second)
