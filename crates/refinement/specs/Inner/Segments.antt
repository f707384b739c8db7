-- What a segment's lifts make of its pages, of NOR and of the buffers: each a function of the lifts. Assumes nothing.
use Rattle.std.specs.Prelude.{cond, List, [], ◌∷◌, ◌++◌, map, ℕ, suc, ◌-◌, ◌*◌, ◌/◌, eqb, ltb, ℤ, pos, length, drop, replicate}
use Rattle.std.specs.Int.Signed.{lt_z}
use Rattle.codec.specs.Area.{part, repeated}
use Rattle.flash.specs.Chip.{slot_of, erased_page}
use Rattle.lift.specs.Limits.{stored}
use Rattle.bloom.specs.Bloom.{section_of}
use Rattle.bloom.specs.Pages.{each, segment_sections, five_sections, bloom_page}
use Rattle.skiplist.specs.declared.Pointer.{Pointer}
use Rattle.form.specs.declared.Form.{Form}
use Rattle.skiplist.specs.Skip.{pointing, level_of, heads_after}
use Rattle.header.specs.declared.Closing.{Closing}
use Rattle.header.specs.Header.{header_page}
use Rattle.tree.specs.Rules.{buckets_of}
use Rattle.tree.specs.Bytes.{tree_bytes}
use Rattle.search.specs.Answers.{row_bytes}
use Rattle.paper_log.specs.Log.{Lift, codes, row_of}

abbrev pub loads_of : List Lift → List ℤ
loads_of ls = map (λ l. l.load) ls

-- the time of the first lift and of the last one
abbrev pub start_time : List Lift → ℕ
start_time [] = 0
start_time (l ∷ ls) = l.time

abbrev pub last_of : ℕ → List Lift → ℕ
last_of t [] = t
last_of t (l ∷ ls) = last_of l.time ls

abbrev pub end_time : List Lift → ℕ
end_time ls = last_of 0 ls

-- the low and the high load, from the first lift on
unfoldable pub low_from : ℤ → List ℤ → ℤ
low_from m [] = m
low_from m (l ∷ ls) = low_from (cond (lt_z l m) l m) ls

unfoldable pub high_from : ℤ → List ℤ → ℤ
high_from m [] = m
high_from m (l ∷ ls) = high_from (cond (lt_z m l) l m) ls

abbrev pub low_of : List ℤ → ℤ
low_of [] = pos 0
low_of (l ∷ ls) = low_from l ls

abbrev pub high_of : List ℤ → ℤ
high_of [] = pos 0
high_of (l ∷ ls) = high_from l ls

-- the last 13 loads, oldest first; unused places 0
unfoldable pub last_thirteen : List ℤ → List ℤ
last_thirteen ls = drop (length ls - 13) ls ++ replicate (13 - length ls) (pos 0)

-- ---- records

-- the records side by side, and as 20 pages with unused bytes 255
unfoldable pub records_of : List Lift → List ℕ
records_of ls = row_bytes (map row_of ls)

unfoldable pub lift_area : List Lift → List ℕ
lift_area ls = records_of ls ++ repeated (10240 - length (records_of ls)) 255

abbrev pub lift_page : List Lift → ℕ → List ℕ
lift_page ls p = part (lift_area ls) (p * 512) 512

-- the page buffer: the records of the page that is not full
unfoldable pub page_buffer : List Lift → List ℕ
page_buffer ls =
    drop (length ls / 16 * 512) (records_of ls) ++ repeated (512 - length (drop (length ls / 16 * 512) (records_of ls))) 255

-- ---- index

unfoldable pub tree_area : List Lift → List ℕ
tree_area ls = tree_bytes (buckets_of (codes ls))

abbrev pub bucket_count : List Lift → ℕ
bucket_count ls = length (buckets_of (codes ls))

-- the whole sections, and the one that is not full
unfoldable pub whole_sections : List ℕ → List ℕ
whole_sections cs = row_bytes (each (λ j. section_of (part cs (64 * j) 64)) 0 (length cs / 64))

unfoldable pub bloom_buffer : List ℕ → List ℕ
bloom_buffer cs = section_of (drop (length cs / 64 * 64) cs)

-- NOR of an open segment
unfoldable pub nor_of : List Lift → List ℕ
nor_of ls = tree_area ls ++ (whole_sections (codes ls) ++ repeated (1536 - length (whole_sections (codes ls))) 255)

-- ---- pages

-- what the close of serial n with these heads was given
unfoldable pub closing_of : Form → ℕ → List Lift → List Pointer → Closing
closing_of f n ls heads = record {
  form = f;
  serial = n;
  count = length ls;
  buckets = bucket_count ls;
  start = start_time ls;
  end = end_time ls;
  low = stored (low_of (loads_of ls));
  high = stored (high_of (loads_of ls));
  heads = heads;
  page = page_buffer ls;
  bloom = bloom_buffer (codes ls);
}

-- page p of a closed segment
unfoldable pub closed_page : Form → ℕ → List Lift → List Pointer → ℕ → List ℕ
closed_page f n ls heads p =
    cond (ltb p 20) (lift_page ls p)
    (cond (ltb p 29) (part (tree_area ls) ((p - 20) * 512) 512)
    (cond (eqb p 29) (bloom_page (segment_sections (codes ls)) 0)
    (cond (eqb p 30) (cond (five_sections (length ls)) (bloom_page (segment_sections (codes ls)) 1) erased_page)
    (header_page (closing_of f n ls heads)))))

-- page p of the open segment: its full lift pages
unfoldable pub open_page : List Lift → ℕ → List ℕ
open_page ls p = cond (ltb p (length ls / 16)) (lift_page ls p) erased_page

-- ---- heads

-- the heads after the segments of these starts, serial n first, have been closed
unfoldable pub heads_from : Form → ℕ → ℕ → List ℕ → List Pointer → List Pointer
heads_from f slots n [] heads = heads
heads_from f slots n (t ∷ ts) heads = heads_from f slots (suc n) ts (heads_after heads (level_of n) (pointing f (slot_of n slots) n t))
