-- Where a bucket stands (document 01, "Chips and slots": "20–28 tree, four buckets a page"; "A bucket number becomes a page and an offset by one
-- rule, used everywhere"). Every definition and every function that turns a bucket number into bytes goes by this rule. Assumes nothing.
use Rattle.std.specs.Prelude.{ℕ, ◌+◌, ◌-◌, ◌*◌, ◌/◌, ◌%◌}
use Rattle.flash.specs.Chip.{page_width, tree_first}
use Rattle.tree.specs.declared.Bucket.{Bucket}
use Rattle.tree.specs.declared.Place.{Place}

abbrev pub bucket_width : ℕ
bucket_width = 128

abbrev pub buckets_per_page : ℕ
buckets_per_page = 4

-- the one rule
abbrev pub bucket_page : ℕ → ℕ
bucket_page b = tree_first + b / buckets_per_page

abbrev pub bucket_offset : ℕ → ℕ
bucket_offset b = bucket_width * (b % buckets_per_page)

abbrev pub place_of : Bucket → Place
place_of b = record { page = record { 0 = bucket_page b.0 }; offset = bucket_offset b.0 }

-- the tree's area is NOR from 0, or pages 20 to 28 of a slot side by side: where page p starts in it
abbrev pub tree_start : ℕ → ℕ
tree_start p = page_width * (p - tree_first)

-- where bucket b starts in it
unfoldable pub bucket_start : ℕ → ℕ
bucket_start b = tree_start (bucket_page b) + bucket_offset b
