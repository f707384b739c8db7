-- What a lift makes of the last 13 loads and of the low and the high load (document 01, "State"). Assumes nothing.
use Rattle.std.specs.Prelude.{cond, List, [], ◌∷◌, ◌++◌, ℕ, eqb, ltb, ℤ, pos, drop, set, replicate}
use Rattle.std.specs.Int.Signed.{lt_z}
use Rattle.lift.specs.Limits.{loads_kept}

-- "Unused list fields are 0"
abbrev pub no_loads : List ℤ
no_loads = replicate loads_kept (pos 0)

-- the loads without the oldest, and with a new one behind the others
unfoldable pub shifted : List ℤ → ℤ → List ℤ
shifted loads load = drop 1 loads ++ (load ∷ [])

-- the last 13 loads with a new one, "oldest first": at its place until there are 13, then behind the others
unfoldable pub pushed : List ℤ → ℕ → ℤ → List ℤ
pushed loads count load = cond (ltb count loads_kept) (set loads count load) (shifted loads load)

-- the low and the high load with a new one
unfoldable pub low_with : ℕ → ℤ → ℤ → ℤ
low_with count low load = cond (eqb count 0) load (cond (lt_z load low) load low)

unfoldable pub high_with : ℕ → ℤ → ℤ → ℤ
high_with count high load = cond (eqb count 0) load (cond (lt_z high load) load high)
