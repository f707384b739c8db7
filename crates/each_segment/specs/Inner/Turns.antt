-- The segments of a question in turn, the newest first: the rows of the one at hand, and those that are left. Assumes nothing.
use Rattle.std.specs.Prelude.{◌≡◌, List, [], map, ℕ, ◌+◌, ◌*◌, ◌≤◌, length, Some, None}
use Rattle.std.specs.Prelude.{Option as Maybe}
use Rattle.std.proofs.Math.Option.{Option, none, some}
use Rattle.flash.specs.Chip.{pages_of, tree_first, slot_width, page_width}
use Rattle.bitset.specs.Inner.Words.{members, Below}
use Rattle.grounds.specs.declared.Ground.{Ground}
use Rattle.grounds.specs.declared.Ground.TheVariants.{Damage}
use Rattle.lift.specs.Rows.{record_in, lifts_most}
use Rattle.skiplist.specs.Skip.{Live}
use Rattle.sweep.specs.Inner.Swept.{Recorded}
use Rattle.visit.specs.declared.Query.{Query}
use Rattle.walk.specs.declared.Cursor.{Cursor}
use Rattle.walk.specs.Inner.Sound.{Sound}
use Rattle.found.specs.Found.{join_rows}
use Rattle.found.specs.Inner.Turns.{rows_after}
use Rattle.each_segment.specs.declared.Turn.{Turn}

-- ---- the segment at hand

-- where its records stand: in its slot, those of the open one from a place on in the page buffer
abbrev pub lifts_of : List ℕ → Turn → List ℕ
lifts_of nand t = pages_of nand t.slot 0 tree_first

-- the rows that are found in it
abbrev pub rows_of : List ℕ → List ℕ → Turn → List (List ℕ)
rows_of nand page t = map (record_in (lifts_of nand t) page t.records.first) (members t.set.words)

-- they can be read
pub record Readable (nand page : List ℕ) (t : Turn) : Type 0 where
  pub inside : t.slot * slot_width + slot_width ≤ length nand
  pub recorded : Recorded (lifts_of nand t) page t.records
  pub below : Below t.records.count (members t.set.words)

-- a segment's turn, its rows being o
pub record AtHand (nand page : List ℕ) (o : Option (List (List ℕ))) (c : Cursor) (t : Turn) : Type 0 where
  pub same_cursor : t.c ≡ c
  pub rows : o ≡ some (rows_of nand page t)
  pub readable : Readable nand page t

-- damage was met where the rows were looked for: none stands for it
abbrev pub IsDamage : Option (List (List ℕ)) → Ground → Type 0
IsDamage o g = (g ≡ Damage) × (o ≡ none)

-- ---- the way on

-- how many turns there may be yet: serials fall
abbrev pub turns_left : Maybe Turn → ℕ
turns_left None = 0
turns_left (Some t) = t.c.before + 1

module _ (nand : List ℕ) (slots : ℕ) (live : Live) (q : Query) where
  module _ (page : List ℕ) where
    -- the rows at hand and those of the older segments, none where no segment is left; none stands for damage
    abbrev pub rows_left : Maybe Turn → Option (List (List ℕ))
    rows_left None = some []
    rows_left (Some t) = join_rows (rows_after nand slots live q t.c) (some (rows_of nand page t))

    -- it can be read, and gone on from
    abbrev pub CanTurn : Maybe Turn → Type 0
    CanTurn None = Unit {0}
    CanTurn (Some t) = Readable nand page t × Sound slots t.c

    -- a turn at which the rows left are o, with at most so many turns to come
    pub record IsTurn (o : Option (List (List ℕ))) (most : ℕ) (t : Maybe Turn) : Type 0 where
      pub rows : rows_left t ≡ o
      pub can : CanTurn t
      pub few : turns_left t ≤ most

    -- of all rows o, the newer ones have had their turn
    pub record Through (o : Option (List (List ℕ))) (top : ℕ) (t : Maybe Turn) (newer : List (List ℕ)) : Type 0 where
      pub rows : o ≡ join_rows (rows_left t) (some newer)
      pub can : CanTurn t
      pub room : length newer + lifts_most * turns_left t ≤ lifts_most * top

  -- the same whatever stands in the page buffer: a closed segment has no record there
  abbrev pub IsClosedTurn : Option (List (List ℕ)) → ℕ → Maybe Turn → Type 0
  IsClosedTurn o most t = (page : List ℕ) → length page ≡ page_width → IsTurn page o most t
