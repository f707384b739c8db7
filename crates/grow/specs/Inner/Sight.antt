-- What the code has read of a bucket on the path. Assumes nothing.
use Rattle.std.specs.Prelude.{◌≡◌, ℕ, Option, Some, None, length}
use Rattle.std.proofs.Math.Option as Tree
use Rattle.std.proofs.Math.Option.{none, some}
use Rattle.tree.specs.Reading as Reading
use Rattle.tree.specs.declared.Node.{Node}

-- n is what was read of the bucket m
pub record Sees (n : Node) (m : Reading.Node) : Type 0 where
  pub x : n.x ≡ m.x
  pub y : n.y ≡ m.y
  pub mid : n.mid ≡ m.mid
  pub left : n.left ≡ m.left
  pub right : n.right ≡ m.right
  pub used : n.used ≡ length m.entries

-- the child's number as the code gives it
abbrev pub is_child : Option ℕ → Tree.Option ℕ → Type 0
is_child None o = o ≡ none
is_child (Some c) o = o ≡ some c
