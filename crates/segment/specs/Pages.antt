-- The pages that a close programs (document 01, "Segments"; "Chips and slots": pages of a slot). Assumes nothing.
use Rattle.std.specs.Prelude.{Bool, true, cond, not, ◌&&◌, ◌||◌, List, ◌++◌, ℕ, zero, suc, ◌-◌, ◌/◌, ◌%◌, min, eqb, leb, ltb}
use Rattle.lift.specs.Rows.{lifts_per_page}
use Rattle.codec.specs.Area.{part, repeated}
use Rattle.flash.specs.Chip.{page_erased, programmed, page_width, slot_pages, tree_first, bloom_first, bloom_second, header_last}
use Rattle.bloom.specs.Pages.{sections_from, five_sections, bloom_page}
use Rattle.tree.specs.Place.{bucket_page, tree_start, bucket_start}
use Rattle.header.specs.declared.Closing.{Closing}
use Rattle.header.specs.Header.{header_page}

-- "20–28 tree": the pages that hold a bucket
abbrev pub holds_bucket : ℕ → ℕ → Bool
holds_bucket buckets p = ltb 0 buckets && leb p (bucket_page (buckets - 1))

-- whether a close programs page p: the part-filled lift page, the tree pages that hold a bucket, page 29, page 30 "only for five
-- sections", page 31
unfoldable pub page_due : ℕ → ℕ → ℕ → Bool
page_due count buckets p =
    cond (ltb p tree_first) (not (eqb (count % lifts_per_page) 0) && eqb p (count / lifts_per_page))
    (cond (ltb p bloom_first) (holds_bucket buckets p)
    (not (eqb p bloom_second) || five_sections count))

-- tree page p: the buckets in it as they stand in NOR; "Unused bucket places in a tree page are 255"
unfoldable pub tree_page : List ℕ → ℕ → ℕ → List ℕ
tree_page nor buckets p =
    let n = min page_width (bucket_start buckets - tree_start p) in
    part nor (tree_start p) n ++ repeated (page_width - n) 255

-- what a close programs into page p
unfoldable pub close_page : List ℕ → Closing → ℕ → List ℕ
close_page nor c p =
    cond (ltb p tree_first) c.page
    (cond (ltb p bloom_first) (tree_page nor c.buckets p)
    (cond (ltb p header_last) (bloom_page (sections_from nor c.bloom c.count) (p - bloom_first))
    (header_page c)))

-- whether page p is erased if it is due
abbrev pub page_ready : List ℕ → ℕ → ℕ → ℕ → ℕ → Bool
page_ready nand slot count buckets p = not (page_due count buckets p) || page_erased nand slot p

-- whether those of the n pages from p on that are due are erased
unfoldable pub pages_erased : ℕ → ℕ → List ℕ → ℕ → ℕ → ℕ → Bool
pages_erased zero p nand slot count buckets = true
pages_erased (suc n) p nand slot count buckets = page_ready nand slot count buckets p && pages_erased n (suc p) nand slot count buckets

-- the chip with page p programmed if it is due
unfoldable pub page_programmed : List ℕ → List ℕ → ℕ → Closing → ℕ → List ℕ
page_programmed nand nor slot c p = cond (page_due c.count c.buckets p) (programmed nand slot p (close_page nor c p)) nand

-- those of the n pages from p on that are due are programmed, "in rising page order"
unfoldable pub pages_programmed : ℕ → ℕ → List ℕ → List ℕ → ℕ → Closing → List ℕ
pages_programmed zero p nand nor slot c = nand
pages_programmed (suc n) p nand nor slot c = pages_programmed n (suc p) (page_programmed nand nor slot c p) nor slot c

-- the pages of a slot that a close programs are erased, and are programmed
abbrev pub close_erased : List ℕ → ℕ → ℕ → ℕ → Bool
close_erased nand slot count buckets = pages_erased slot_pages 0 nand slot count buckets

abbrev pub close_programmed : List ℕ → List ℕ → ℕ → Closing → List ℕ
close_programmed nand nor slot c = pages_programmed slot_pages 0 nand nor slot c
