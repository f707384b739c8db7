-- The turns of the loop that gathers a log segment by segment, the newest first. Assumes nothing.
use Rattle.std.specs.Prelude.{◌≡◌, true, List, ℕ, ◌≤◌, set, Result, MatchResult}
use Rattle.std.proofs.Math.Option.{Option, some}
use Rattle.bitset.specs.declared.Bits.{Bits}
use Rattle.grounds.specs.declared.Ground.{Ground}
use Rattle.skiplist.specs.Skip.{serials_from}
use Rattle.sweep.specs.declared.Sweep.{Sweep}
use Rattle.visit.specs.declared.Log.{Log}
use Rattle.visit.specs.declared.Query.{Query}
use Rattle.walk.specs.declared.Cursor.{Cursor}
use Rattle.found.specs.Found.{join_rows}
use Rattle.found.specs.Inner.Turns.{rows_after}
use Rattle.found.specs.Inner.Slots.{slots_below, serial_in}
use Rattle.each_segment.specs.Inner.Turns.{IsDamage}
use Rattle.whole_log.specs.Inner.Held.{Held, rows_held}

-- there is a place left below the lowest for each slot whose serial is below the cursor's
abbrev pub Left : List ℕ → Log → Cursor → ℕ → Type 0
Left nand g c low = slots_below (serial_in nand) g.slots c.before ≤ low

-- the rows of the closed segments that are left
abbrev pub after : List ℕ → Log → Query → Cursor → Option (List (List ℕ))
after nand g q c = rows_after nand g.slots (serials_from g.oldest) q c

-- ---- one segment put into its place

-- the slot and the set of a search without damage
pub record Puts (m : Sweep) (i slot : ℕ) (way : List ℕ) (sets : List Bits) (new_way : List ℕ) (new_sets : List Bits) : Type 0 where
  pub good : m.good ≡ true
  pub way_is : new_way ≡ set way i slot
  pub sets_are : new_sets ≡ set sets i m.set

-- ---- all rows are o

module _ (nand nor page : List ℕ) (g : Log) (q : Query) (o : Option (List (List ℕ))) (way : List ℕ) (sets : List Bits) where
  -- the segments are in hand and o are their rows
  pub record Whole (low : ℕ) : Type 0 where
    pub held : Held nand nor page g q way sets low
    pub rows : o ≡ some (rows_held nand page g way sets low)

  -- or damage was met
  abbrev pub Ends : Result ℕ Ground → Type 0
  Ends r = MatchResult r Whole (IsDamage o)

  -- some are in hand, the closed ones from a cursor on are left
  pub record Goes (c : Cursor) (low : ℕ) : Type 0 where
    pub held : Held nand nor page g q way sets low
    pub rows : o ≡ join_rows (after nand g q c) (some (rows_held nand page g way sets low))

-- ---- all closed ones; whatever stands in the page buffer and in NOR

abbrev pub GathersAll : List ℕ → Log → Query → List ℕ → List Bits → Cursor → List ℕ → List Bits → Result ℕ Ground → Type 0
GathersAll nand g q way sets c new_way new_sets r =
    (nor page : List ℕ) (o : Option (List (List ℕ))) → Goes nand nor page g q o way sets c g.slots
    → Ends nand nor page g q o new_way new_sets r
