-- Chips and slots (document 01): NAND is S slots of 32 pages of 512 bytes, NOR is 6,144 bytes. Assumes nothing.
use Rattle.std.specs.Prelude.{Bool, List, ℕ, ◌+◌, ◌-◌, ◌*◌, ◌%◌}
use Rattle.codec.specs.Area.{part, splice, repeated, all_ones}
use Rattle.codec.specs.Number.{bytes}

-- "32 pages of 512 bytes"; "NOR is 6,144 bytes"
abbrev pub page_width : ℕ
page_width = 512

abbrev pub slot_pages : ℕ
slot_pages = 32

abbrev pub slot_width : ℕ
slot_width = 16384

abbrev pub nor_width : ℕ
nor_width = 6144

-- "Pages of a slot: 0–19 lifts ..; 20–28 tree ..; 29–30 Bloom; 31 header"
abbrev pub tree_first : ℕ
tree_first = 20

abbrev pub tree_pages : ℕ
tree_pages = 9

abbrev pub bloom_first : ℕ
bloom_first = 29

abbrev pub bloom_second : ℕ
bloom_second = 30

abbrev pub header_last : ℕ
header_last = 31

-- the bytes of the tree's pages, and of the buckets' part of NOR: "Bloom sections .. from 4,608"
abbrev pub tree_width : ℕ
tree_width = 4608

-- serial n uses slot (n−1) mod S
unfoldable pub slot_of : ℕ → ℕ → ℕ
slot_of serial slots = (serial - 1) % slots

-- where page p of a slot starts
abbrev pub page_start : ℕ → ℕ → ℕ
page_start slot p = slot * slot_width + p * page_width

-- the bytes of n pages of a slot, from page p on
abbrev pub pages_of : List ℕ → ℕ → ℕ → ℕ → List ℕ
pages_of nand slot p n = part nand (page_start slot p) (n * page_width)

-- page p of a slot
abbrev pub page_of : List ℕ → ℕ → ℕ → List ℕ
page_of nand slot p = part nand (page_start slot p) page_width

-- a page is erased when all its bytes are 255
abbrev pub page_erased : List ℕ → ℕ → ℕ → Bool
page_erased nand slot p = all_ones (page_of nand slot p)

-- the chip with page p of a slot programmed, whole
abbrev pub programmed : List ℕ → ℕ → ℕ → List ℕ → List ℕ
programmed nand slot p page = splice nand (page_start slot p) page

-- a page as erasing leaves it
abbrev pub erased_page : List ℕ
erased_page = repeated page_width 255

-- the chip with a slot erased: erasing sets a slot's bytes to 255
abbrev pub slot_erased : List ℕ → ℕ → List ℕ
slot_erased nand slot = splice nand (slot * slot_width) (repeated slot_width 255)

-- a chip of n bytes, erased whole
abbrev pub chip_erased : ℕ → List ℕ
chip_erased n = repeated n 255

-- NOR with the n low bytes of v written at a place
abbrev pub nor_written : List ℕ → ℕ → ℕ → ℕ → List ℕ
nor_written nor at n v = splice nor at (bytes n v)

-- the buckets' part of NOR: "NOR holds buckets of 128 bytes from 0"
abbrev pub nor_tree : List ℕ → List ℕ
nor_tree nor = part nor 0 tree_width
