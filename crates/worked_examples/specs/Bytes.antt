-- Worked examples of bytes and places (documents 01 and 02, W-202): what the definitions write, beside what is laid by hand. Assumes
-- nothing.
use Rattle.std.proofs.Math.Option.{none, some}
use Rattle.std.specs.Prelude.{List, [], ◌∷◌, ◌++◌, map, ℕ, zero, suc, pos, length, get_or, replicate}
use Rattle.codec.specs.Area.{part, splice}
use Rattle.flash.specs.Chip.{slot_of, page_start}
use Rattle.lift.specs.Limits.{stored}
use Rattle.lift.specs.Record.{record_bytes, time_at, code_at, note_at}
use Rattle.lift.specs.Rows.{time_in, code_in, record_in}
use Rattle.bloom.specs.Bloom.{section_of}
use Rattle.bloom.specs.Pages.{section_count, fragment_length, sections_from, bloom_page}
use Rattle.form.specs.declared.Form.TheVariants.{Old, New}
use Rattle.skiplist.specs.declared.Pointer.{Pointer}
use Rattle.skiplist.specs.Skip.{level_of, node_of, heads_after}
use Rattle.skiplist.specs.PointerBytes.{pointer_bytes, pointers_bytes, pointers_at}
use Rattle.header.specs.declared.Header.{Header}
use Rattle.header.specs.Header.{header_page, header_in}
use Rattle.segment.specs.Pages.{tree_page}
use Rattle.tree.specs.Rules.{Entry, Kids, whole, split, Bucket}
use Rattle.tree.specs.Place.{bucket_page, bucket_offset, bucket_start}
use Rattle.tree.specs.Bytes.{bucket_bytes, tree_bytes}
use Rattle.tree.specs.Reading.{bucket_at, Node, node_in}
use Rattle.store.specs.World.{closing, page_with, section_start}
use Rattle.worked_examples.specs.Figures.{minus, one, two, four, eight}
use Rattle.worked_examples.specs.Examples.{bit_of}
use Rattle.worked_examples.specs.Laid.{laid_header, laid_old_header, laid_pointers, laid_old_pointers, laid_bucket, laid_whole, laid_note, laid_record}
use Rattle.worked_examples.specs.Laid.{laid_entries}
use Rattle.worked_examples.specs.States.{pointing, state_of, no_heads, zeros, heads, closable}

-- the bytes at some places of an area
abbrev pub picked : List ℕ → List ℕ → List ℕ
picked area places = map (λ i. get_or area i 256) places

-- ---- numbers: loads as stored, places of pages and buckets

unfoldable pub places : List (List ℕ × List ℕ)
places =
    -- "load + 50,001": −50,001 (a range's end), −50,000, −1, 0, 100,000
    (map stored (minus 50001 ∷ minus 50000 ∷ minus 1 ∷ pos 0 ∷ pos 100000 ∷ []), 0 ∷ 1 ∷ 50000 ∷ 50001 ∷ 150001 ∷ [])
    -- "serial n uses slot (n−1) mod S": S = 4, serials 1, 4, 5, 8; S = 4,096, serial 999,999,999: 999,999,998 = 244,140·4,096 + 2,558
    ∷ (map (λ n. slot_of n 4) (1 ∷ 4 ∷ 5 ∷ 8 ∷ []), 0 ∷ 3 ∷ 0 ∷ 3 ∷ [])
    ∷ (one (slot_of 999999999 4096), one 2558)
    -- a slot is 32 pages of 512 bytes: pages 0 and 1 of slot 0, 0 of slot 1, 31 of slot 3 (3·16,384 + 31·512), 31 of slot 4,095
    ∷ (
      page_start 0 0 ∷ page_start 0 1 ∷ page_start 1 0 ∷ page_start 3 31 ∷ page_start 4095 31 ∷ [],
      0 ∷ 512 ∷ 16384 ∷ 65024 ∷ 67108352 ∷ [],
    )
    -- "20–28 tree, four buckets a page": buckets 0, 3, 4, 35
    ∷ (map bucket_page (0 ∷ 3 ∷ 4 ∷ 35 ∷ []), 20 ∷ 20 ∷ 21 ∷ 28 ∷ [])
    ∷ (map bucket_offset (0 ∷ 3 ∷ 4 ∷ 35 ∷ []), 0 ∷ 384 ∷ 0 ∷ 384 ∷ [])
    ∷ (map bucket_start (0 ∷ 3 ∷ 4 ∷ 35 ∷ []), 0 ∷ 384 ∷ 512 ∷ 4480 ∷ [])
    -- "Each 64 lifts make a section": 1, 64, 65, 256, 257 and 320 lifts
    ∷ (map section_count (1 ∷ 64 ∷ 65 ∷ 256 ∷ 257 ∷ 320 ∷ []), 1 ∷ 1 ∷ 2 ∷ 4 ∷ 5 ∷ 5 ∷ [])
    -- "the smaller of 128 and 512 div s": 512, 256, 170, 128, 102
    ∷ (map fragment_length (1 ∷ 2 ∷ 3 ∷ 4 ∷ 5 ∷ []), 128 ∷ 128 ∷ 128 ∷ 128 ∷ 102 ∷ [])
    -- "Bloom sections of 128 from 4,608" in NOR, for lift 64, 128 and 320 (counts 63, 127, 319 before them)
    ∷ (
      map (λ n. section_start (state_of 1 1 n 1 0 0 (pos 0) (pos 0) zeros no_heads)) (63 ∷ 127 ∷ 319 ∷ []),
      4608 ∷ 4736 ∷ 5120 ∷ [],
    )
    -- "1 plus the trailing zero bits of its serial, at most 4": 3, 4, 6, 12, 24, 32 and 999,999,999
    ∷ (map level_of (3 ∷ 4 ∷ 6 ∷ 12 ∷ 24 ∷ 32 ∷ 999999999 ∷ []), 1 ∷ 3 ∷ 2 ∷ 3 ∷ 4 ∷ 4 ∷ 1 ∷ [])
    ∷ []

-- ---- records and buckets

abbrev pub example : Kids → Bucket
example kids = record {
  x = 49994;
  y = 150001;
  kids = kids;
  entries = record { load = 49996; position = 3 } ∷ record { load = 150001; position = 319 } ∷ [];
}

-- a bucket as it is read: x, y, mid, children, then load and place of its entries
abbrev pub entry_shown : Entry → List ℕ
entry_shown e = e.load ∷ e.position ∷ []

unfoldable pub all_shown : List Entry → List ℕ
all_shown [] = []
all_shown (e ∷ es) = entry_shown e ++ all_shown es

abbrev pub node_shown : Node → List ℕ
node_shown n = n.x ∷ n.y ∷ n.mid ∷ n.left ∷ n.right ∷ all_shown n.entries

-- a record with time 256 + n and stored load n
abbrev pub numbered : ℕ → List ℕ
numbered n = eight n 1 0 0 0 0 0 0 ++ (four n 0 0 0 ++ laid_note)

-- records 1 and 2, and records 3 and 4, with a byte after them
abbrev pub in_pages : List ℕ
in_pages = numbered 1 ++ (numbered 2 ++ one 9)

abbrev pub in_buffer : List ℕ
in_buffer = numbered 3 ++ (numbered 4 ++ one 9)

-- a page buffer with a lift: the nineteenth is the third of its page
abbrev pub buffered : List ℕ
buffered =
    page_with (record {
      oldest = 1;
      current = 1;
      count = 18;
      buckets = 2;
      next = 0;
      heads = no_heads;
      loads = zeros;
      page = replicate 512 255;
      bloom = [];
      start = 0;
      low = pos 0;
      high = pos 0;
    }) 0x02030405060708 (minus 500) laid_note

unfoldable pub layouts : List (List ℕ × List ℕ)
layouts =
    -- a record, written; and read from byte 2 of an area
    (record_bytes 0x02030405060708 49501 laid_note, laid_record)
    ∷ (time_at (two 9 9 ++ laid_record) 2 ∷ code_at (two 9 9 ++ laid_record) 2 ∷ [], 0x02030405060708 ∷ 49501 ∷ [])
    -- 256⁷, in the eighth byte of a time
    ∷ (one (time_at (eight 0 0 0 0 0 0 0 1) 0), one 72057594037927936)
    ∷ (note_at (two 9 9 ++ (laid_record ++ one 9)) 2, laid_note)
    -- the records before place 2 stand in the pages, from place 2 on in the buffer, 32 bytes each
    ∷ (map (code_in in_pages in_buffer 2) (0 ∷ 1 ∷ 2 ∷ 3 ∷ []), 1 ∷ 2 ∷ 3 ∷ 4 ∷ [])
    ∷ (map (time_in in_pages in_buffer 2) (0 ∷ 1 ∷ 2 ∷ 3 ∷ []), 257 ∷ 258 ∷ 259 ∷ 260 ∷ [])
    ∷ (record_in in_pages in_buffer 2 0 ++ record_in in_pages in_buffer 2 1, numbered 1 ++ numbered 2)
    ∷ (record_in in_pages in_buffer 2 2 ++ record_in in_pages in_buffer 2 3, numbered 3 ++ numbered 4)
    -- "16 a page in order of arrival": the nineteenth lift at byte 2·32 of its page
    ∷ (buffered, replicate 64 255 ++ (laid_record ++ replicate 416 255))
    -- a bucket split and not yet split, written
    ∷ (bucket_bytes (example (split 49998 none (some 4))), laid_bucket)
    ∷ (bucket_bytes (example whole), laid_whole)
    -- read: the entries end at position 65,535
    ∷ (node_shown (node_in laid_bucket), 49994 ∷ 150001 ∷ 49998 ∷ 255 ∷ 4 ∷ 49996 ∷ 3 ∷ 150001 ∷ 319 ∷ [])
    -- thirteen entries and no more, though places 2 to 12 hold 500 at 0 to 10
    ∷ (one (length (node_in (splice laid_bucket 40 (laid_entries 11 0))).entries), one 13)
    -- 36 places of 128 bytes, the second bucket from byte 128, places without a bucket 255
    ∷ (one (length (tree_bytes (example whole ∷ example (split 49998 none (some 4)) ∷ []))), one 4608)
    ∷ (part (tree_bytes (example whole ∷ example (split 49998 none (some 4)) ∷ [])) 128 136, laid_bucket ++ replicate 8 255)
    ∷ (bucket_at (laid_whole ++ (laid_bucket ++ one 7)) 1, laid_bucket)
    -- tree pages 0 and 1 of five buckets: four from NOR byte 0, bucket 4 from 512, "Unused bucket places in a tree page are 255"
    ∷ (tree_page (replicate 512 7 ++ (replicate 128 8 ++ replicate 128 9)) 5 20, replicate 512 7)
    ∷ (tree_page (replicate 512 7 ++ (replicate 128 8 ++ replicate 128 9)) 5 21, replicate 128 8 ++ replicate 384 255)
    ∷ []

-- ---- Bloom

-- n bytes, rising by one from b
unfoldable pub ramp : ℕ → ℕ → List ℕ
ramp zero b = []
ramp (suc n) b = b ∷ ramp n (suc b)

-- sections 0 to 4: byte k of section j is 20j + k
abbrev pub three_sections : List (List ℕ)
three_sections = ramp 128 0 ∷ ramp 128 20 ∷ ramp 128 40 ∷ []

abbrev pub four_sections : List (List ℕ)
four_sections = three_sections ++ (ramp 128 60 ∷ [])

abbrev pub five_sections : List (List ℕ)
five_sections = four_sections ++ (ramp 128 80 ∷ [])

-- NOR with two sections from 4,608
abbrev pub two_in_nor : List ℕ
two_in_nor = replicate 4608 255 ++ (replicate 128 1 ++ replicate 128 2)

unfoldable pub bloom : List (List ℕ × List ℕ)
bloom =
    -- load −49,999, the paper's bits 632, 535, 778: 79·8 + 0, mask 128; 66·8 + 7, mask 1; 97·8 + 2, mask 32
    (section_of (2 ∷ []), replicate 66 0 ++ (one 1 ++ (replicate 12 0 ++ (one 128 ++ (replicate 17 0 ++ (one 32 ++ replicate 30 0))))))
    -- load 500, u = 50,500:
    -- ×2,654,435,761 = 134,049,005,930,500 = 31,210·2³² + 3,076,622,340, div 2²² = 733 = 91·8 + 5, mask 4
    -- ×2,246,822,519 = 113,464,537,209,500 = 26,418·2³² + 91,183,772, div 2²² = 21 = 2·8 + 5, mask 4
    -- ×3,266,489,917 = 164,957,740,808,500 = 38,407·2³² + 931,871,028, div 2²² = 222 = 27·8 + 6, mask 2
    ∷ (section_of (50501 ∷ []), replicate 2 0 ++ (one 4 ++ (replicate 24 0 ++ (one 2 ++ (replicate 63 0 ++ (one 4 ++ replicate 36 0))))))
    -- −49,999, then −387 (u = 49,613, bits 532, 5, 633: byte 66 mask 8, byte 0 mask 4, byte 79 mask 64), then −49,999 again: bits add up,
    -- none twice
    ∷ (picked (section_of (2 ∷ 49614 ∷ 2 ∷ [])) (0 ∷ 66 ∷ 79 ∷ 97 ∷ []), 4 ∷ 9 ∷ 192 ∷ 32 ∷ [])
    -- loads at which one more or one less in a multiplier would give another bit: (u × A mod 2³²) div 2²² and what is left of it
    -- u = 149,988: 697, left 4,053,668; u = 149,995: 8, left 142,971
    ∷ (map (bit_of 0) (pos 99988 ∷ pos 99995 ∷ []), 697 ∷ 8 ∷ [])
    -- u = 149,987: 582, left 4,093,573; u = 149,990: 142, left 120,298
    ∷ (map (bit_of 1) (pos 99987 ∷ pos 99990 ∷ []), 582 ∷ 142 ∷ [])
    -- u = 149,989: 487, left 4,145,553; u = 149,984: 690, left 121,440
    ∷ (map (bit_of 2) (pos 99989 ∷ pos 99984 ∷ []), 487 ∷ 690 ∷ [])
    -- 63 lifts: the buffer; 64: NOR's first; 65: NOR's first, then the buffer; 128: both of NOR
    ∷ (map (λ s. get_or s 0 256) (sections_from two_in_nor (replicate 128 3) 63), one 3)
    ∷ (map (λ s. get_or s 0 256) (sections_from two_in_nor (replicate 128 3) 64), one 1)
    ∷ (map (λ s. get_or s 127 256) (sections_from two_in_nor (replicate 128 3) 65), two 1 3)
    ∷ (map (λ s. get_or s 0 256) (sections_from two_in_nor (replicate 128 3) 128), two 1 2)
    ∷ (map (λ s. get_or s 127 256) (sections_from two_in_nor (replicate 128 3) 128), two 1 2)
    ∷ (map length (sections_from two_in_nor (replicate 128 3) 129), 128 ∷ 128 ∷ 128 ∷ [])
    -- five sections, L = 102. Page 0: section j from byte 102j, its bytes 0 to 101; the last two bytes 0
    ∷ (
      picked (bloom_page five_sections 0) (0 ∷ 101 ∷ 102 ∷ 203 ∷ 204 ∷ 408 ∷ 509 ∷ 510 ∷ 511 ∷ []),
      0 ∷ 101 ∷ 20 ∷ 121 ∷ 40 ∷ 80 ∷ 181 ∷ 0 ∷ 0 ∷ [],
    )
    -- page 1: section j from byte 102j, its bytes 102 to 127, then 0
    ∷ (
      picked (bloom_page five_sections 1) (0 ∷ 25 ∷ 26 ∷ 101 ∷ 102 ∷ 408 ∷ 433 ∷ 434 ∷ 511 ∷ []),
      102 ∷ 127 ∷ 0 ∷ 0 ∷ 122 ∷ 182 ∷ 207 ∷ 0 ∷ 0 ∷ [],
    )
    -- four sections, L = 128: section j from byte 128j, the page full; three: the last 128 bytes 0
    ∷ (picked (bloom_page four_sections 0) (0 ∷ 127 ∷ 128 ∷ 255 ∷ 256 ∷ 384 ∷ 511 ∷ []), 0 ∷ 127 ∷ 20 ∷ 147 ∷ 40 ∷ 60 ∷ 187 ∷ [])
    ∷ (picked (bloom_page three_sections 0) (0 ∷ 128 ∷ 256 ∷ 383 ∷ 384 ∷ 511 ∷ []), 0 ∷ 20 ∷ 40 ∷ 167 ∷ 0 ∷ 0 ∷ [])
    ∷ (
      length (bloom_page five_sections 0) ∷ length (bloom_page five_sections 1) ∷ length (bloom_page three_sections 0) ∷ [],
      512 ∷ 512 ∷ 512 ∷ [],
    )
    ∷ []

-- ---- pointers, nodes and headers

unfoldable pub pointers_shown : List Pointer → List ℕ
pointers_shown [] = []
pointers_shown (p ∷ ps) = p.slot ∷ p.serial ∷ p.time ∷ pointers_shown ps

abbrev pub header_shown : Header → List ℕ
header_shown h = h.serial ∷ h.count ∷ h.buckets ∷ h.start ∷ h.low ∷ h.high ∷ []

unfoldable pub headers : List (List ℕ × List ℕ)
headers =
    -- slot 772 = 3·256 + 4, serial 0x01020305, time 0x01030405060708; form 0 leaves the serial out
    (pointer_bytes New (pointing 772 16909061 0x01030405060708), two 4 3 ++ (four 5 3 2 1 ++ eight 8 7 6 5 4 3 1 0))
    ∷ (pointer_bytes Old (pointing 772 0 0x01030405060708), two 4 3 ++ eight 8 7 6 5 4 3 1 0)
    -- four of them, read from the header: slot, serial, time; in form 0 there is no serial, read as 0
    ∷ (
      pointers_shown (pointers_at New laid_header 40),
      772 ∷ 16909061 ∷ 0x01030405060708 ∷ 771 ∷ 16909060 ∷ 0x01020405060708 ∷ 65535 ∷ 0 ∷ 0 ∷ 65535 ∷ 0 ∷ 0 ∷ [],
    )
    ∷ (
      pointers_shown (pointers_at Old laid_old_header 40),
      772 ∷ 0 ∷ 0x01030405060708 ∷ 771 ∷ 0 ∷ 0x01020405060708 ∷ 65535 ∷ 0 ∷ 0 ∷ 65535 ∷ 0 ∷ 0 ∷ [],
    )
    -- none
    ∷ (pointer_bytes New (pointing 65535 0 0), two 255 255 ++ replicate 12 0)
    ∷ (pointer_bytes Old (pointing 65535 0 0), two 255 255 ++ replicate 8 0)
    -- a node of level 2 copies two heads, "the others none", though the other heads are not
    ∷ (pointers_bytes New (node_of heads 2), laid_pointers)
    ∷ (pointers_bytes Old (node_of heads 2), laid_old_pointers)
    -- "those heads then point to it": the first two, to slot 773 = 3·256 + 5
    ∷ (
      map (λ p. p.slot) (heads_after heads 2 (pointing 773 16909062 0x02030405060708)),
      773 ∷ 773 ∷ 771 ∷ 767 ∷ [],
    )
    -- the header page, all 512 bytes. Form 1: "The end time written is next time"; form 0: "next time less 1"
    ∷ (header_page (closing New (closable 0x02030405060807)), laid_header)
    ∷ (header_page (closing Old (closable 0x02030405060808)), laid_old_header)
    -- as read: serial, count, buckets, start, low, high, and the pointers
    ∷ (header_shown (header_in New laid_header 4096 16909063), 16909062 ∷ 258 ∷ 21 ∷ 0x02030405060708 ∷ 49501 ∷ 150001 ∷ [])
    ∷ (header_shown (header_in Old laid_old_header 4096 16909063), 16909062 ∷ 258 ∷ 21 ∷ 0x02030405060708 ∷ 49501 ∷ 150001 ∷ [])
    ∷ (map (λ p. p.slot) (header_in New laid_header 4096 16909063).next, 772 ∷ 771 ∷ 65535 ∷ 65535 ∷ [])
    -- where its fields stand, counted by hand: byte 10; form 1's pointers from 40, 54, 68, 82; form 0's from 40, 50, 60, 70
    ∷ (
      picked laid_header (0 ∷ 4 ∷ 6 ∷ 7 ∷ 8 ∷ 9 ∷ 10 ∷ 16 ∷ 24 ∷ 32 ∷ 36 ∷ 40 ∷ 54 ∷ 68 ∷ 82 ∷ 95 ∷ []),
      6 ∷ 2 ∷ 21 ∷ 5 ∷ 102 ∷ 2 ∷ 1 ∷ 8 ∷ 7 ∷ 93 ∷ 241 ∷ 4 ∷ 3 ∷ 255 ∷ 255 ∷ 0 ∷ [],
    )
    ∷ (picked laid_old_header (10 ∷ 40 ∷ 50 ∷ 60 ∷ 70 ∷ 79 ∷ []), 0 ∷ 4 ∷ 3 ∷ 255 ∷ 255 ∷ 0 ∷ [])
    ∷ (length laid_header ∷ length laid_old_header ∷ [], 512 ∷ 512 ∷ [])
    ∷ []
