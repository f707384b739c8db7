-- What the code's writes say, and that they stay within the tree's 4,608 bytes. Assumes nothing.
use Rattle.std.specs.Prelude.{ℕ, ◌+◌, ◌≤◌, Option, Some, None}
use Rattle.tree.specs.Writes as Tree
use Rattle.grow.specs.declared.Write.{Write}
use Rattle.grow.specs.declared.Writes.{Writes}

abbrev pub put_in : Write → Tree.Write
put_in w = record { to = w.at; len = w.len; value = w.value }

-- one that may be left out
abbrev pub write_of : Option Write → Tree.Write
write_of None = Tree.nothing
write_of (Some w) = put_in w

abbrev pub all_of : Writes → Tree.Writes
all_of ws = record { mid = write_of ws.mid; child = write_of ws.child; range = write_of ws.range; entry = write_of ws.entry }

-- a new bucket n with its range and its first entry, after a mid and a child's number
abbrev pub growth : Tree.Write → Tree.Write → ℕ → ℕ → ℕ → ℕ → ℕ → Tree.Writes
growth mid child n x y l p =
    record { mid = mid; child = child; range = Tree.range_write n x y; entry = Tree.entry_write n 0 l p }

abbrev pub Inside : Tree.Write → ℕ → Type 0
Inside w most = w.to + w.len ≤ most

pub record InTree (ws : Writes) : Type 0 where
  pub mid : Inside (write_of ws.mid) 4608
  pub child : Inside (write_of ws.child) 4608
  pub range : Inside (write_of ws.range) 4608
  pub entry : Inside (write_of ws.entry) 4608
