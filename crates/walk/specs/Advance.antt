-- From segment to segment of a search (document 01, "Search"): level 1, and the segments that are passed over. Assumes nothing.
use Rattle.std.specs.Prelude.{Bool, true, cond, not, ◌&&◌, ◌||◌, List, ℕ, ltb, get_or}
use Rattle.flash.specs.Chip.{pages_of, bloom_first}
use Rattle.bloom.specs.Bloom.{may_hold}
use Rattle.bloom.specs.Pages.{section_count, sections_in}
use Rattle.bloom.specs.Tried.{pages_tried}
use Rattle.form.specs.declared.Form.{Form}
use Rattle.skiplist.specs.Skip.{Live, none, is_live}
use Rattle.header.specs.declared.Header.{Header}
use Rattle.visit.specs.declared.Closed.{Closed}
use Rattle.visit.specs.declared.Query.{Query}
use Rattle.walk.specs.declared.Cursor.{Cursor}
use Rattle.walk.specs.declared.Step.{Step}
use Rattle.walk.specs.declared.Step.TheVariants.{End, Damage, Pass, Visit}
use Rattle.walk.specs.Seek.{header_at, is_last}

-- "its load span misses the range"
abbrev pub span_misses : Header → Query → Bool
span_misses h q = ltb h.high q.k1 || ltb q.k2 h.low

-- the Bloom sections of the segment in a slot
abbrev pub sections_at : List ℕ → ℕ → Header → List (List ℕ)
sections_at nand slot h = sections_in (pages_of nand slot bloom_first 2) (section_count h.count)

-- "A closed segment is passed over if its load span misses the range or, for equal loads, if some hash bit is clear in all
-- sections."
unfoldable pub is_passed : List ℕ → ℕ → Header → Query → Bool
is_passed nand slot h q = span_misses h q || (not (ltb q.k1 q.k2) && not (may_hold (sections_at nand slot h) q.k1))

-- W-207: how many Bloom pages hold a bit tried; "If the load span meets the range, Bloom bits are tried", for equal loads
unfoldable pub bloom_read : List ℕ → ℕ → Header → Query → ℕ
bloom_read nand slot h q = cond (span_misses h q || ltb q.k1 q.k2) 0 (pages_tried (sections_at nand slot h) q.k1)

-- "Then level 1", until the last one has been done
abbrev pub cursor_after : Form → Header → Query → Cursor
cursor_after f h q = record { good = true; last = is_last f h.start q.t1; next = get_or h.next 0 none; before = h.serial }

abbrev pub closed_of : ℕ → Header → Closed
closed_of slot h = record { slot = slot; count = h.count; buckets = h.buckets }

-- one segment on: the end, damage in its header, a segment passed over, or one whose tree is searched
unfoldable pub advance_of : List ℕ → ℕ → Live → Query → Cursor → Step
advance_of nand slots live q c =
    let p = c.next in
    let h = header_at live.form nand slots p c.before in
    cond (c.last || not (is_live p live)) End
    (cond (not h.good) Damage
    (cond (is_passed nand p.slot h q) (Pass (cursor_after live.form h q))
    (Visit (closed_of p.slot h) (cursor_after live.form h q))))
