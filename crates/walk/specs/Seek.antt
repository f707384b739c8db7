-- Where a search's closed segments begin (document 01, "Search", first paragraph): the skip walk, from the heads, level 4 down to
-- 1. Assumes nothing.
use Rattle.std.specs.Prelude.{Bool, true, cond, not, ◌&&◌, List, ℕ, zero, suc, ◌+◌, eqb, leb, ltb, get_or}
use Rattle.flash.specs.Chip.{page_of, header_last}
use Rattle.skiplist.specs.declared.Pointer.{Pointer}
use Rattle.form.specs.declared.Form.{Form}
use Rattle.form.specs.declared.Form.TheVariants.{Old, New}
use Rattle.skiplist.specs.Skip.{Live, none, is_live, levels}
use Rattle.header.specs.declared.Header.{Header}
use Rattle.header.specs.Header.{header_in}
use Rattle.visit.specs.declared.Log.{Log}
use Rattle.visit.specs.declared.Query.{Query}
use Rattle.walk.specs.declared.Cursor.{Cursor}

-- the skip walk: no damage so far; the level it is at, 4 down to 1, 0 at its end; the serial of the header loaded last, or the open
-- serial; the pointers that it goes on from; its moves, a header page loaded at each
pub record SkipWalk : Type 0 where
  pub good : Bool
  pub level : ℕ
  pub before : ℕ
  pub pointers : List Pointer
  pub moves : ℕ

-- the header that a pointer leads to; its serial is to be below the one before
abbrev pub header_at : Form → List ℕ → ℕ → Pointer → ℕ → Header
header_at f nand slots p before = header_in f (page_of nand p.slot header_last) slots before

-- the walk is at level k + 1: "while that level's pointer is live and its time is above t2, load its header and go on from its
-- pointers", else one level down; damage ends the walk
unfoldable pub hop_at : List ℕ → ℕ → Live → ℕ → SkipWalk → ℕ → SkipWalk
hop_at nand slots live t2 w k =
    let p = get_or w.pointers k none in
    let h = header_at live.form nand slots p w.before in
    cond (is_live p live && ltb t2 p.time)
    (record { good = h.good; level = cond h.good (suc k) 0; before = h.serial; pointers = h.next; moves = w.moves + 1 })
    (record { good = true; level = k; before = w.before; pointers = w.pointers; moves = w.moves })

abbrev pub hop : List ℕ → ℕ → Live → ℕ → SkipWalk → ℕ → SkipWalk
hop nand slots live t2 w zero = w
hop nand slots live t2 w (suc k) = hop_at nand slots live t2 w k

-- n hops, as long as the walk is at a level; serial and level together fall at each
unfoldable pub hops : ℕ → List ℕ → ℕ → Live → ℕ → SkipWalk → SkipWalk
hops zero nand slots live t2 w = w
hops (suc n) nand slots live t2 w = hops n nand slots live t2 (hop nand slots live t2 w w.level)

-- the walk from the heads
unfoldable pub skip_walk : List ℕ → Log → Live → ℕ → SkipWalk
skip_walk nand g live t2 =
    hops (g.current + levels) nand g.slots live t2
    (record { good = true; level = levels; before = g.current; pointers = g.heads; moves = 0 })

-- "the level 1 pointer then reached"
abbrev pub reached_by : SkipWalk → Cursor
reached_by w = record { good = w.good; last = not w.good; next = get_or w.pointers 0 none; before = w.before }

-- whether a segment that starts here is the last to be done: "until a start ≤ t1 has been done" in form 0; in form 1 "a search
-- goes on while a segment's start is at least t1"
abbrev pub is_last : Form → ℕ → ℕ → Bool
is_last Old start t1 = leb start t1
is_last New start t1 = ltb start t1

-- the open segment, if it has lifts, may be the last: then there is nothing to do in the closed ones, and no walk takes place
abbrev pub open_is_last : Log → Live → Query → Bool
open_is_last g live q = not (eqb g.count 0) && is_last live.form g.start q.t1

unfoldable pub start_of : List ℕ → Log → Live → Query → Cursor
start_of nand g live q =
    cond (open_is_last g live q)
    (record { good = true; last = true; next = none; before = g.current })
    (reached_by (skip_walk nand g live q.t2))

-- W-207: "the number of header pages loaded while it finds the newest closed segment"
unfoldable pub moves_of : List ℕ → Log → Live → Query → ℕ
moves_of nand g live q = cond (open_is_last g live q) 0 (skip_walk nand g live q.t2).moves
