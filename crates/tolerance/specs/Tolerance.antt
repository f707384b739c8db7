-- Loads known within a tolerance (document 02, W-209): which lifts are certain, which are possible, and the one plain search that has them
-- all. Assumes nothing.
use Rattle.std.specs.Prelude.{Bool, cond, ◌&&◌, List, ℕ, ℤ, pos, ◌+ℤ◌, ◌-ℤ◌}
use Rattle.std.specs.Int.Signed.{le_z}
use Rattle.codec.specs.Lists.{chosen}
use Rattle.lift.specs.Limits.{load_least, load_most, load_of}
use Rattle.lift.specs.Record.{code_at}

-- a whole number "within d of the logged load"
abbrev pub is_within : ℕ → ℤ → ℤ → Bool
is_within d load x = le_z (load -ℤ pos d) x && le_z x (load +ℤ pos d)

-- it "lies between k1 and k2"
abbrev pub is_between : ℤ → ℤ → ℤ → Bool
is_between k1 k2 x = le_z k1 x && le_z x k2

-- "certain lifts, for which every whole number within d of the logged load lies between k1 and k2": the least of them and the greatest do,
-- also where they are past the load limits
unfoldable pub is_certain : ℤ → ℤ → ℕ → ℤ → Bool
is_certain k1 k2 d load = le_z k1 (load -ℤ pos d) && le_z (load +ℤ pos d) k2

-- "and possible lifts, for which at least one does"
unfoldable pub is_possible : ℤ → ℤ → ℕ → ℤ → Bool
is_possible k1 k2 d load = le_z k1 (load +ℤ pos d) && le_z (load -ℤ pos d) k2

-- "the widened ends, which stop at the load limits"
unfoldable pub low_end : ℤ → ℕ → ℤ
low_end k1 d = cond (le_z load_least (k1 -ℤ pos d)) (k1 -ℤ pos d) load_least

unfoldable pub high_end : ℤ → ℕ → ℤ
high_end k2 d = cond (le_z (k2 +ℤ pos d) load_most) (k2 +ℤ pos d) load_most

-- "Both come from one plain search over the widened ends": possible are all rows of that search, certain are those of them whose load is
unfoldable pub certain_rows : ℤ → ℤ → ℕ → List (List ℕ) → List (List ℕ)
certain_rows k1 k2 d rows = chosen (λ r. is_certain k1 k2 d (load_of (code_at r 0))) rows
