-- A text that is written to end at a place. Assumes nothing.
use Rattle.std.specs.Prelude.{◌≡◌, List, ℕ, ◌+◌, length}
use Rattle.codec.specs.Area.{splice}

-- it ends at `end` and begins at r
pub record PutBefore (area new text : List ℕ) (end r : ℕ) : Type 0 where
  pub begins : r + length text ≡ end
  pub written : new ≡ splice area r text
