-- The grounds of a tolerant search's window (document 02, W-209), in checking order. Assumes nothing.
use Rattle.std.specs.Prelude.{not, ◌&&◌, ◌||◌, ℕ, ltb, ℤ}
use Rattle.std.specs.Int.Signed.{lt_z}
use Rattle.lift.specs.Limits.{time_ok, load_ok}
use Rattle.bounds.specs.Grounds.{ground}

-- "d from 0 to 1,000"
abbrev pub tolerance_most : ℕ
tolerance_most = 1000

-- those of a plain search, k1 and k2 as they are given, and "17: d above 1,000, before the ranges are compared"
unfoldable pub tolerance_ground : ℕ → ℕ → ℤ → ℤ → ℕ → ℕ
tolerance_ground t1 t2 k1 k2 d =
    ground 4 (not (time_ok t1 && time_ok t2))
    (ground 5 (not (load_ok k1 && load_ok k2))
    (ground 17 (ltb tolerance_most d)
    (ground 6 (ltb t2 t1 || lt_z k2 k1)
    0)))
