-- The header page of a closed segment (document 01, "Bloom and skip list"; damage: "Search", second paragraph). Assumes nothing.
use Rattle.std.specs.Prelude.{Bool, true, ◌&&◌, List, [], ◌∷◌, ◌++◌, ℕ, ◌-◌, ◌*◌, eqb, leb, ltb}
use Rattle.tree.specs.Rules.{buckets_most}
use Rattle.codec.specs.Area.{repeated}
use Rattle.codec.specs.Number.{bytes, number_at}
use Rattle.lift.specs.Limits.{time_ok, code_ok}
use Rattle.lift.specs.Rows.{lifts_most}
use Rattle.bloom.specs.Pages.{section_count, fragment_length}
use Rattle.form.specs.declared.Form.{Form}
use Rattle.form.specs.declared.Form.TheVariants.{Old, New}
use Rattle.form.specs.Forms.{byte_ten, serial_width}
use Rattle.skiplist.specs.declared.Pointer.{Pointer}
use Rattle.skiplist.specs.Skip.{in_slots, level_of, node_of, levels}
use Rattle.skiplist.specs.PointerBytes.{pointers_bytes, pointers_at}
use Rattle.header.specs.declared.Closing.{Closing}
use Rattle.header.specs.declared.Header.{Header}

-- byte 10 is the form's, then five zeros
abbrev pub form_bytes : Form → List ℕ
form_bytes f = bytes 1 (byte_ten f) ++ repeated 5 0

-- "serial 4, count 2, buckets, sections, L, level 1 each, six zeros", the first of these by the form
unfoldable pub count_bytes : Form → ℕ → ℕ → ℕ → List ℕ
count_bytes f serial count buckets =
    bytes 4 serial ++ (bytes 2 count ++ (bytes 1 buckets ++ (bytes 1 (section_count count)
    ++ (bytes 1 (fragment_length (section_count count)) ++ (bytes 1 (level_of serial) ++ form_bytes f)))))

-- "start and end time 8 each, low and high load 4 each"
unfoldable pub span_bytes : ℕ → ℕ → ℕ → ℕ → List ℕ
span_bytes start end low high = bytes 8 start ++ (bytes 8 end ++ (bytes 4 low ++ bytes 4 high))

-- "four pointers, zeros": where the pointers stand, and how many zeros follow
abbrev pub pointers_from : ℕ
pointers_from = 40

abbrev pub tail_width : Form → ℕ
tail_width f = 432 - levels * serial_width f

-- the header page
unfoldable pub header_page : Closing → List ℕ
header_page c =
    count_bytes c.form c.serial c.count c.buckets ++ (span_bytes c.start c.end c.low c.high
    ++ (pointers_bytes c.form (node_of c.heads (level_of c.serial)) ++ repeated (tail_width c.form) 0))

-- count 1 to 320, buckets 1 to 36, sections and L as the count gives
unfoldable pub counts_good : ℕ → ℕ → ℕ → ℕ → Bool
counts_good count buckets sections fragment =
    (leb 1 count && leb count lifts_most) && ((leb 1 buckets && leb buckets buckets_most)
    && (eqb sections (section_count count) && eqb fragment (fragment_length (section_count count))))

-- times and loads within their limits, start not above end, low not above high
unfoldable pub span_good : ℕ → ℕ → ℕ → ℕ → Bool
span_good start end low high = (time_ok start && (time_ok end && leb start end)) && (code_ok low && (code_ok high && leb low high))

-- a pointer's time within its limit, its slot below S or 65,535
unfoldable pub pointer_good : ℕ → Pointer → Bool
pointer_good slots p = time_ok p.time && in_slots p slots

unfoldable pub pointers_good : ℕ → List Pointer → Bool
pointers_good slots [] = true
pointers_good slots (p ∷ ps) = pointer_good slots p && pointers_good slots ps

-- byte 10 of the header page h: form 0 leaves it unchecked; in form 1 "any other byte 10 counts as damage"
abbrev pub form_in : Form → List ℕ → Bool
form_in Old h = true
form_in New h = eqb (number_at h 10 1) 1

-- the counts, and the span, of the header page h
abbrev pub counts_in : List ℕ → Bool
counts_in h = counts_good (number_at h 4 2) (number_at h 6 1) (number_at h 7 1) (number_at h 8 1)

abbrev pub span_in : List ℕ → Bool
span_in h = span_good (number_at h 16 8) (number_at h 24 8) (number_at h 32 4) (number_at h 36 4)

-- no damage in the header page h; its serial is below the one before
unfoldable pub header_good : Form → List ℕ → ℕ → ℕ → Bool
header_good f h slots before =
    form_in f h && (counts_in h && (span_in h && (pointers_good slots (pointers_at f h pointers_from) && ltb (number_at h 0 4) before)))

-- the header as read
unfoldable pub header_in : Form → List ℕ → ℕ → ℕ → Header
header_in f h slots before = record {
  good = header_good f h slots before;
  serial = number_at h 0 4;
  count = number_at h 4 2;
  buckets = number_at h 6 1;
  start = number_at h 16 8;
  low = number_at h 32 4;
  high = number_at h 36 4;
  next = pointers_at f h pointers_from;
}
