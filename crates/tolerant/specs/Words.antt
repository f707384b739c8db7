-- The words in which proofs/Theorems says what a tolerant search gives (document 02, W-209). Assumes nothing.
use Rattle.std.specs.Prelude.{◌≡◌, cond, List, ℕ, eqb, ℤ, length}
use Rattle.std.proofs.Math.Option.{Option, some}
use Rattle.codec.specs.Area.{splice}
use Rattle.codec.specs.Lists.{Part}
use Rattle.search.specs.Answers.{SearchAnswer, row_bytes}
use Rattle.tolerance.specs.Tolerance.{certain_rows}
use Rattle.tolerant.specs.Answers.{TolerantAnswer, refused_both}

-- a list in its area with its count; the rest of the area keeps its bytes
pub record InArea (area : List ℕ) (rows : List (List ℕ)) (count : ℕ) (after : List ℕ) : Type 0 where
  pub many : count ≡ length rows
  pub written : after ≡ splice area 0 (row_bytes rows)

-- "The certain list is part of the possible one": in its order, where o are the rows of the search over the widened ends
pub record TwoLists (k1 k2 : ℤ) (d : ℕ) (o : Option (List (List ℕ))) (certain_area possible_area : List ℕ) (a : TolerantAnswer)
    : Type 0 where
  pub possible : List (List ℕ)
  pub found : o ≡ some possible
  pub part : Part (certain_rows k1 k2 d possible) possible
  pub certain_in : InArea certain_area (certain_rows k1 k2 d possible) a.certain a.certain_area
  pub possible_in : InArea possible_area possible a.possible a.possible_area

-- "one plain search over the widened ends": its count and its area are those of the possible lifts
pub record FromSearch (p : SearchAnswer) (a : TolerantAnswer) : Type 0 where
  pub accepted : p.number ≡ 0
  pub possible : p.count ≡ a.possible
  pub possible_area : p.area ≡ a.possible_area

-- two plain searches, each into an area of its own; refused where either of them is
unfoldable pub searched_twice : List ℕ → List ℕ → SearchAnswer → SearchAnswer → TolerantAnswer
searched_twice certain_area possible_area a b =
    let n = cond (eqb a.number 0) b.number a.number in
    cond (eqb n 0)
    (record { number = 0; certain = a.count; possible = b.count; certain_area = a.area; possible_area = b.area })
    (refused_both n certain_area possible_area)
