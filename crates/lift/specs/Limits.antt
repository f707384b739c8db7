-- The limits of a lift's time and load, and the load as it is stored (document 01, "Chips and slots"). Assumes nothing.
use Rattle.std.specs.Prelude.{Bool, ◌&&◌, ℕ, leb, ℤ, pos, negsuc, ◌+ℤ◌}
use Rattle.std.proofs.Math.IntN.{sub_ℕ}
use Rattle.std.specs.Int.Signed.{le_z}

-- "a time (ms, 0 to 999,999,999,999,999)"
abbrev pub time_limit : ℕ
time_limit = 999999999999999

abbrev pub time_ok : ℕ → Bool
time_ok t = leb t time_limit

-- "a load (units of 10 g, −50,000 to 100,000)"; −(n + 1) is `negsuc n`
abbrev pub load_least : ℤ
load_least = negsuc 49999

abbrev pub load_most : ℤ
load_most = pos 100000

abbrev pub load_ok : ℤ → Bool
load_ok z = le_z load_least z && le_z z load_most

-- "last 13 loads of the open segment"
abbrev pub loads_kept : ℕ
loads_kept = 13

-- an integer as a natural, 0 for what is negative
abbrev pub natural : ℤ → ℕ
natural (pos n) = n
natural (negsuc n) = 0

-- "A load is stored as load + 50,001 in an unsigned 32-bit number": 1 to 150,001 within the limits
abbrev pub load_shift : ℕ
load_shift = 50001

abbrev pub code_most : ℕ
code_most = 150001

unfoldable pub stored : ℤ → ℕ
stored z = natural (z +ℤ pos load_shift)

-- the load that a stored number stands for
abbrev pub load_of : ℕ → ℤ
load_of code = sub_ℕ code load_shift

-- a stored load within the limits
abbrev pub code_ok : ℕ → Bool
code_ok code = leb 1 code && leb code code_most
