-- A tree in bytes (document 01, "Tree"): 36 places of 128 bytes, in NOR from 0 and in pages 20 to 28 of a slot. Assumes
-- nothing.
use Rattle.std.specs.Prelude.{ℕ, zero, suc, ◌+◌, ◌*◌, List, [], ◌∷◌, ◌++◌}
use Rattle.std.proofs.Math.Option.{Option, none, some}
use Rattle.codec.specs.Area.{repeated}
use Rattle.codec.specs.Number.{bytes}
use Rattle.tree.specs.Rules.{Entry, Bucket, Kids, whole, split, buckets_most, entries_most}
use Rattle.tree.specs.Place.{bucket_width}

-- n places of w bytes, an item in each as long as there are items; a place without one is 255
unfoldable pub places : {A : Type 0} → ℕ → (A → List ℕ) → ℕ → List A → List ℕ
places w code zero items = []
places w code (suc n) [] = repeated w 255 ++ places w code n []
places w code (suc n) (a ∷ items) = code a ++ places w code n items

-- "entries of 8: load 4, position 2, two bytes 255"; "entries end at the first with position 65,535"
abbrev pub entry_width : ℕ
entry_width = 8

abbrev pub no_position : ℕ
no_position = 65535

unfoldable pub entry_bytes : Entry → List ℕ
entry_bytes e = bytes 4 e.load ++ bytes 2 e.position ++ repeated 2 255

-- "Mid and entries stay 255 until used": a mid that is all 255
abbrev pub no_mid : ℕ
no_mid = 4294967295

abbrev pub mid_number : Kids → ℕ
mid_number whole = no_mid
mid_number (split m left right) = m

-- "left and right child (1 each, 255 none)"
abbrev pub no_child : ℕ
no_child = 255

abbrev pub child_number : Option ℕ → ℕ
child_number none = no_child
child_number (some c) = c

abbrev pub left_number : Kids → ℕ
left_number whole = no_child
left_number (split m left right) = child_number left

abbrev pub right_number : Kids → ℕ
right_number whole = no_child
right_number (split m left right) = child_number right

-- "Bucket: min x, max y, mid (4 bytes each), left and right child (1 each, 255 none), ten bytes 255, then 13 entries of 8"
unfoldable pub bucket_bytes : Bucket → List ℕ
bucket_bytes b =
    bytes 4 b.x ++ bytes 4 b.y ++ bytes 4 (mid_number b.kids)
    ++ bytes 1 (left_number b.kids)
    ++ bytes 1 (right_number b.kids)
    ++ repeated 10 255
    ++ places entry_width entry_bytes entries_most b.entries

-- "NOR holds buckets of 128 bytes from 0"; "20–28 tree, four buckets a page"; "Unused bucket places in a tree page are 255"
unfoldable pub tree_bytes : List Bucket → List ℕ
tree_bytes t = places bucket_width bucket_bytes buckets_most t

-- ---- where the fields of a bucket stand

abbrev pub mid_at : ℕ
mid_at = 8

abbrev pub left_at : ℕ
left_at = 12

abbrev pub right_at : ℕ
right_at = 13

-- entry i, and its position
abbrev pub entry_at : ℕ → ℕ
entry_at i = 24 + entry_width * i

abbrev pub position_at : ℕ → ℕ
position_at i = 28 + entry_width * i
