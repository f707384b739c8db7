-- Grounds 1, 2 and 4 to 8 on plain numbers, in checking order (document 01, "Twelve grounds"). Assumes nothing.
use Rattle.std.specs.Prelude.{Bool, cond, not, ◌&&◌, ◌||◌, ℕ, ◌-◌, ◌*◌, eqb, leb, ltb, ℤ}
use Rattle.std.specs.Int.Signed.{lt_z}
use Rattle.bounds.specs.Bounds.{last_serial}
use Rattle.flash.specs.Chip.{slot_width, nor_width}
use Rattle.lift.specs.Limits.{time_ok, load_ok}

-- number n if the ground holds, else what the later grounds give
abbrev pub ground : ℕ → Bool → ℕ → ℕ
ground n holds rest = cond holds n rest

-- of two numbers that grounds gave, the one that is tried first: the smaller, 0 where no ground holds
unfoldable pub sooner : ℕ → ℕ → ℕ
sooner a b = cond (eqb a 0) b (cond (eqb b 0) a (cond (ltb b a) b a))

-- "1. S is outside 2 to 4,096, or NAND length is not S slots."
abbrev pub slots_least : ℕ
slots_least = 2

abbrev pub slots_most : ℕ
slots_most = 4096

abbrev pub nand_bad : ℕ → ℕ → Bool
nand_bad nand_length slots = ltb slots slots_least || (ltb slots_most slots || not (eqb nand_length (slots * slot_width)))

-- "2. NOR length is not 6,144."
abbrev pub nor_bad : ℕ → Bool
nor_bad nor_length = not (eqb nor_length nor_width)

-- both chips
unfoldable pub format_ground : ℕ → ℕ → ℕ → ℕ
format_ground nand_length nor_length slots = ground 1 (nand_bad nand_length slots) (ground 2 (nor_bad nor_length) 0)

-- an append's lift: "4. A time is past its limit. 5. A load is past its limit. 7. An appended time is below next time. 8. An append finds
-- open serial 999,999,998 or more."
unfoldable pub lift_ground : ℕ → ℤ → ℕ → ℕ → ℕ → ℕ
lift_ground time load next current rest =
    ground 4 (not (time_ok time)) (ground 5 (not (load_ok load)) (ground 7 (ltb time next) (ground 8 (leb (last_serial - 1) current) rest)))

-- a search's window: both times, then both loads, then "6. A range runs backwards."
unfoldable pub query_ground : ℕ → ℕ → ℤ → ℤ → ℕ
query_ground t1 t2 k1 k2 =
    ground 4 (not (time_ok t1 && time_ok t2)) (ground 5 (not (load_ok k1 && load_ok k2)) (ground 6 (ltb t2 t1 || lt_z k2 k1) 0))

-- its two parts: 4 and 5, then what the later grounds give; 6
abbrev pub limits_ground : ℕ → ℕ → ℤ → ℤ → ℕ → ℕ
limits_ground t1 t2 k1 k2 rest = ground 4 (not (time_ok t1 && time_ok t2)) (ground 5 (not (load_ok k1 && load_ok k2)) rest)

abbrev pub ranges_ground : ℕ → ℕ → ℤ → ℤ → ℕ
ranges_ground t1 t2 k1 k2 = ground 6 (ltb t2 t1 || lt_z k2 k1) 0
