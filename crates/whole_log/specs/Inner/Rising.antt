-- Rows whose times never fall. Assumes nothing.
use Rattle.std.specs.Prelude.{◌≡◌, List, [], ◌∷◌, ℕ, ◌≤◌}
use Rattle.lift.specs.Record.{time_at}

-- from a time on
abbrev pub Rising : ℕ → List (List ℕ) → Type 0
Rising t [] = Unit {0}
Rising t (r ∷ rs) = (t ≤ time_at r 0) × Rising (time_at r 0) rs

-- the last time
unfoldable pub last_time : ℕ → List (List ℕ) → ℕ
last_time t [] = t
last_time t (r ∷ rs) = last_time (time_at r 0) rs

-- from a time on, and the last one is known
pub record Rises (from : ℕ) (rows : List (List ℕ)) (last : ℕ) : Type 0 where
  pub never_falls : Rising from rows
  pub last_is : last ≡ last_time from rows
