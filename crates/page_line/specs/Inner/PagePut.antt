-- An area with an answer at its start, and the answer's length. Assumes nothing.
use Rattle.std.specs.Prelude.{◌≡◌, List, ℕ, ◌+◌, ◌≤◌, length}
use Rattle.codec.specs.Area.{splice}
use Rattle.service_page.specs.Page.{page_bytes}

pub record PagePut (area new : List ℕ) (n : ℕ) (answer : List ℕ) : Type 0 where
  pub are : new ≡ splice area 0 answer
  pub long : n ≡ length answer
  pub inside : n ≤ 5 + page_bytes
