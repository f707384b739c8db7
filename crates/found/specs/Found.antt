-- What a search finds over all segments (document 01, "Search"): rows "by serial and then position, so oldest first over all
-- segments". Assumes nothing.
use Rattle.std.specs.Prelude.{cond, List, [], ◌++◌, ℕ, zero, suc, ◌+◌, ◌*◌}
use Rattle.std.proofs.Math.Option.{Option, none, some}
use Rattle.lift.specs.Rows.{lifts_most}
use Rattle.skiplist.specs.Skip.{Live}
use Rattle.visit.specs.declared.Log.{Log}
use Rattle.visit.specs.declared.Query.{Query}
use Rattle.visit.specs.Visit.{closed_rows, open_rows}
use Rattle.walk.specs.declared.Cursor.{Cursor}
use Rattle.walk.specs.declared.Step.TheVariants.{End, Damage, Pass, Visit}
use Rattle.walk.specs.Seek.{start_of}
use Rattle.walk.specs.Advance.{advance_of}

-- rows of older segments before those of newer ones; none stands for damage
abbrev pub join_rows : Option (List (List ℕ)) → Option (List (List ℕ)) → Option (List (List ℕ))
join_rows none newer = none
join_rows (some older) none = none
join_rows (some older) (some newer) = some (older ++ newer)

-- the rows of the closed segments from a cursor on, in n steps; serials fall, so as many steps as the serial before says are
-- enough
unfoldable pub rows_from : ℕ → List ℕ → ℕ → Live → Query → Cursor → Option (List (List ℕ))
rows_from zero nand slots live q c = some []
rows_from (suc n) nand slots live q c =
    elim (advance_of nand slots live q c) [
      | End ↦ some []
      | Damage ↦ none
      | Pass d ↦ rows_from n nand slots live q d
      | Visit s d ↦ join_rows (rows_from n nand slots live q d) (closed_rows nand s q)
    ]

abbrev pub closed_found : List ℕ → Log → Live → Query → Cursor → Option (List (List ℕ))
closed_found nand g live q c = cond c.good (rows_from (g.current + 1) nand g.slots live q c) none

-- all rows; none where damage is met
unfoldable pub found_rows : List ℕ → List ℕ → List ℕ → Log → Live → Query → Option (List (List ℕ))
found_rows nand nor page g live q = join_rows (closed_found nand g live q (start_of nand g live q)) (open_rows nand nor page g q)

-- the most rows that are found, whatever the chips hold: 320 for each slot and for the open segment, as damaged pointers can lead into
-- its slot as well
abbrev pub most_found : ℕ → ℕ
most_found slots = (slots + 1) * lifts_most
