-- What the parser reads on its way to a line. Assumes nothing.
use Rattle.std.specs.Prelude.{cond, ◌&&◌, ℕ, Option, Some, None}
use Rattle.lines.specs.declared.Field.{Field}
use Rattle.lines.specs.Columns.{value_of, is_time}

-- a window of times, if both fields are times
abbrev pub window_in : Field → Field → Option (ℕ × ℕ)
window_in t1 t2 = cond (is_time t1 && is_time t2) (Some (value_of t1, value_of t2)) None
