-- The turns of the loops that count: rows counted segment by segment, the newest first. Assumes nothing.
use Rattle.std.specs.Prelude as Std
use Rattle.std.specs.Prelude.{◌≡◌, cond, List, [], ℕ, ◌+◌, ◌<◌, ◌≤◌, length, Some, None, Result, Ok, Err}
use Rattle.std.proofs.Math.Option.{Option, none, some}
use Rattle.bitset.specs.Inner.Words.{members}
use Rattle.skiplist.specs.Skip.{Live}
use Rattle.grounds.specs.declared.Ground.{Ground}
use Rattle.grounds.specs.declared.Ground.TheVariants as Grounds
use Rattle.sweep.specs.declared.Sweep.{Sweep}
use Rattle.visit.specs.declared.Closed.{Closed}
use Rattle.visit.specs.declared.Log.{Log}
use Rattle.visit.specs.declared.Query.{Query}
use Rattle.visit.specs.Visit.{closed_rows, open_rows}
use Rattle.visit.specs.Inner.Sound.{ClosedSound}
use Rattle.walk.specs.declared.Cursor.{Cursor}
use Rattle.walk.specs.declared.Step.TheVariants.{End, Damage, Pass, Visit}
use Rattle.walk.specs.Advance.{advance_of}
use Rattle.walk.specs.Inner.Sound.{Sound}
use Rattle.found.specs.declared.Counted.{Counted}
use Rattle.found.specs.declared.Pages.{Pages}
use Rattle.found.specs.Found.{join_rows, rows_from, closed_found}
use Rattle.found.specs.Pages.{Read, bloom_at, read_from, bloom_sum, tree_sum}

-- the rows of the closed segments from a cursor on
unfoldable pub rows_after : List ℕ → ℕ → Live → Query → Cursor → Option (List (List ℕ))
rows_after nand slots live q c = rows_from (c.before + 1) nand slots live q c

-- the rows, none where damage was met
abbrev pub rows_in : Option (List (List ℕ)) → List (List ℕ)
rows_in none = []
rows_in (some rows) = rows

-- all rows, the closed segments from a cursor on
abbrev pub all_rows : List ℕ → List ℕ → List ℕ → Log → Live → Query → Cursor → Option (List (List ℕ))
all_rows nand nor page g live q c = join_rows (closed_found nand g live q c) (open_rows nand nor page g q)

-- ---- counting

-- so many lifts and the rows, with so many pages read; none stands for damage
abbrev pub count_of : ℕ → Pages → Option (List (List ℕ)) → Std.Option Counted
count_of total pages none = None
count_of total pages (some rows) = Some (record { total = total + length rows; pages = pages })

-- a count with the matches of a segment
abbrev pub counted_with : ℕ → Pages → Sweep → Std.Option Counted
counted_with total pages m = cond m.good (Some (record { total = total + length (members m.set.words); pages = pages })) None

-- ---- pages

-- pages read, with those of some segments more
abbrev pub with_read : Pages → List Read → Pages
with_read p rs = record { headers = p.headers; bloom = p.bloom + bloom_sum rs; tree = p.tree + tree_sum rs }

abbrev pub with_pages : Pages → Read → Pages
with_pages p r = record { headers = p.headers; bloom = p.bloom + r.bloom; tree = p.tree + r.tree }

-- those of the closed segments from a cursor on
unfoldable pub read_after : List ℕ → ℕ → Live → Query → Cursor → List Read
read_after nand slots live q c = read_from (c.before + 1) nand slots live q c

-- all pages, where the skip walk reached a cursor in so many moves
abbrev pub all_pages : List ℕ → Log → Live → Query → Cursor → ℕ → Pages
all_pages nand g live q c moves =
    let rs = read_from (g.current + 1) nand g.slots live q c in
    record { headers = moves; bloom = bloom_sum rs; tree = tree_sum rs }

module _ (nand : List ℕ) (slots : ℕ) (live : Live) (q : Query) where
  -- the Bloom pages that hold a bit tried in the segment that a cursor leads to; none at the end and at damage
  abbrev pub bloom_on : Cursor → ℕ
  bloom_on c =
      elim (advance_of nand slots live q c) [
        | End ↦ 0
        | Damage ↦ 0
        | Pass d ↦ bloom_at nand slots live q c
        | Visit s d ↦ bloom_at nand slots live q c
      ]

  -- a count, with the closed segments from a cursor on
  abbrev pub count_after : Counted → Cursor → Std.Option Counted
  count_after n c =
      count_of n.total (with_read n.pages (read_after nand slots live q c)) (rows_after nand slots live q c)

  -- the next segment that is searched, from a cursor on; the walk went on to it from where it stood, and serials fall
  pub record Onward (c : Cursor) (s : Closed) (d : Cursor) : Type 0 where
    pub stood : Cursor
    pub stood_low : stood.before ≤ c.before
    pub steps : advance_of nand slots live q stood ≡ Visit s d
    pub rows : rows_after nand slots live q c ≡ join_rows (rows_after nand slots live q d) (closed_rows nand s q)
    pub closed : ClosedSound nand s
    pub sound : Sound slots d
    pub falls : d.before < c.before

  abbrev pub LeadsOn : Cursor → Result (Std.Option (Closed × Cursor)) Ground → Type 0
  LeadsOn c (Err g) = (g ≡ Grounds.Damage) × (rows_after nand slots live q c ≡ none)
  LeadsOn c (Ok None) = rows_after nand slots live q c ≡ some []
  LeadsOn c (Ok (Some (s, d))) = Onward c s d
