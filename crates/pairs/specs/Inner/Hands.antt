-- Two logs in hand: the first by its slots, the second by its slots and its sets. Assumes nothing.
use Rattle.std.specs.Prelude.{◌≡◌, Bool, true, List, ℕ, ◌≤◌, length, Result, Ok, Err}
use Rattle.std.proofs.Math.Option.{Option, some}
use Rattle.codec.specs.Area.{splice}
use Rattle.bitset.specs.declared.Bits.{Bits}
use Rattle.grounds.specs.declared.Ground.{Ground}
use Rattle.grounds.specs.Numbers.{number_of}
use Rattle.visit.specs.declared.Log.{Log}
use Rattle.visit.specs.declared.Query.{Query}
use Rattle.search.specs.Answers.{row_bytes}
use Rattle.supersets.specs.Pairs.{pair_rows}
use Rattle.whole_log.specs.Inner.Held.{Held, rows_held}
use Rattle.whole_log.specs.Inner.Rising.{Rising}
use Rattle.joining.specs.Inner.Passing.{Lent, lent_rows}
use Rattle.pairs.specs.Answers.{PairsAnswer, refused_pairs}

module _ (nand nor page : List ℕ) (g : Log) (q : Query) (o : Option (List (List ℕ))) where
  -- o are the rows of the segments in hand; their times never fall, if that is said
  pub record InHand (way : List ℕ) (sets : List Bits) (low : ℕ) (rising : Bool) : Type 0 where
    pub held : Held nand nor page g q way sets low
    pub rows : o ≡ some (rows_held nand page g way sets low)
    pub rises : rising ≡ true → Rising 0 (rows_held nand page g way sets low)

  -- the same, where the sets are made anew one by one
  pub record Lends (way : List ℕ) (low : ℕ) (rising : Bool) : Type 0 where
    pub low_most : low ≤ g.slots
    pub each : (i : ℕ) → low ≤ i → i ≤ g.slots → Lent nand nor page g q way i
    pub rows : o ≡ some (lent_rows nand nor page g q way low)
    pub rises : rising ≡ true → Rising 0 (lent_rows nand nor page g q way low)

-- rows without damage, whose times never fall, if that is said
pub record Known (o : Option (List (List ℕ))) (rising : Bool) : Type 0 where
  pub rows : List (List ℕ)
  pub are : o ≡ some rows
  pub rises : rising ≡ true → Rising 0 rows

-- the pairs of both lists of rows are written, where they are no more than the area's
abbrev pub Writes : Option (List (List ℕ)) → Option (List (List ℕ)) → ℕ → List ℕ → List ℕ → Type 0
Writes o1 o2 rows area new =
    (first second : List (List ℕ)) → o1 ≡ some first → o2 ≡ some second → length (pair_rows first second) ≤ rows
    → new ≡ splice area 0 (row_bytes (pair_rows first second))

-- what a piece of the call hands back, with the area after it
abbrev pub answered : Result ℕ Ground → List ℕ → PairsAnswer
answered (Ok n) area = record { number = 0; count = n; area = area }
answered (Err g) area = refused_pairs (number_of g) area
