-- What an insertion writes (document 01, "Search": "the NOR bytes it writes: a new bucket's range, a mid, a child number,
-- an entry's load and position"). Assumes nothing.
use Rattle.std.specs.Prelude.{ℕ, ◌+◌, ◌*◌, Bool, ◌&&◌, List}
use Rattle.lift.specs.Limits.{code_most}
use Rattle.codec.specs.Area.{part, all_ones}
use Rattle.flash.specs.Chip.{nor_written}
use Rattle.tree.specs.Place.{bucket_start}
use Rattle.tree.specs.Plan.{Plan, damaged, no_room, new_root, into_bucket, new_child, split_bucket}
use Rattle.tree.specs.Bytes.{mid_at, entry_at}

-- `len` bytes from `to` on get a number; none where len is 0
pub record Write : Type 0 where
  pub to : ℕ
  pub len : ℕ
  pub value : ℕ

abbrev pub nothing : Write
nothing = record { to = 0; len = 0; value = 0 }

-- the writes of an insertion, in this order
pub record Writes : Type 0 where
  pub mid : Write
  pub child : Write
  pub range : Write
  pub entry : Write

-- two numbers of four bytes side by side, as one
abbrev pub pair : ℕ → ℕ → ℕ
pair a b = a + 4294967296 * b

abbrev pub mid_write : ℕ → ℕ → Write
mid_write b m = record { to = bucket_start b + mid_at; len = 4; value = m }

abbrev pub child_write : ℕ → ℕ → ℕ → Write
child_write b side n = record { to = bucket_start b + side; len = 1; value = n }

abbrev pub range_write : ℕ → ℕ → ℕ → Write
range_write b x y = record { to = bucket_start b; len = 8; value = pair x y }

-- entry i of bucket b: load 4, position 2
abbrev pub entry_write : ℕ → ℕ → ℕ → ℕ → Write
entry_write b i l p = record { to = bucket_start b + entry_at i; len = 6; value = pair l p }

-- the load l with position p goes where the plan says; a new bucket gets the number n. Where there was no room, the segment
-- has been closed and a new tree begins.
unfoldable pub writes_of : Plan → ℕ → ℕ → ℕ → Writes
writes_of damaged n l p = record { mid = nothing; child = nothing; range = nothing; entry = nothing }
writes_of no_room n l p = record { mid = nothing; child = nothing; range = range_write 0 0 code_most; entry = entry_write 0 0 l p }
writes_of new_root n l p = record { mid = nothing; child = nothing; range = range_write 0 0 code_most; entry = entry_write 0 0 l p }
writes_of (into_bucket b i) n l p = record { mid = nothing; child = nothing; range = nothing; entry = entry_write b i l p }
writes_of (new_child b side x y) n l p =
    record { mid = nothing; child = child_write b side n; range = range_write n x y; entry = entry_write n 0 l p }
writes_of (split_bucket b m side x y) n l p =
    record { mid = mid_write b m; child = child_write b side n; range = range_write n x y; entry = entry_write n 0 l p }

-- the bucket count after the insertion
unfoldable pub buckets_after : Plan → ℕ → ℕ
buckets_after damaged n = n
buckets_after no_room n = 1
buckets_after new_root n = 1
buckets_after (into_bucket b i) n = n
buckets_after (new_child b side x y) n = n + 1
buckets_after (split_bucket b m side x y) n = n + 1

-- "NOR bytes due for writing that are not 255" are damage
abbrev pub is_clear : List ℕ → Write → Bool
is_clear nor w = all_ones (part nor w.to w.len)

unfoldable pub all_clear : List ℕ → Writes → Bool
all_clear nor ws = is_clear nor ws.mid && is_clear nor ws.child && is_clear nor ws.range && is_clear nor ws.entry

abbrev pub written : List ℕ → Write → List ℕ
written nor w = nor_written nor w.to w.len w.value

unfoldable pub all_written : List ℕ → Writes → List ℕ
all_written nor ws = written (written (written (written nor ws.mid) ws.child) ws.range) ws.entry
