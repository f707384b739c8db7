-- "A write may only clear bits" (document 01, "Chips and slots"): no bit goes from 0 to 1. Assumes nothing.
use Rattle.std.specs.Prelude.{◌≡◌, List, ℕ, ◌/◌, ◌%◌, ◌^◌, ◌≤◌, length, get_or}

-- bit k of a byte
abbrev pub bit_of : ℕ → ℕ → ℕ
bit_of b k = b / 2 ^ k % 2

-- from the bytes `old` to the bytes `new` bits were only cleared
pub record OnlyClears (old new : List ℕ) : Type 0 where
  pub long : length new ≡ length old
  pub falls : (i k : ℕ) → bit_of (get_or new i 0) k ≤ bit_of (get_or old i 0) k
