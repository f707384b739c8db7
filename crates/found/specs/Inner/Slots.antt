-- The slots that may yet be visited: serials fall from segment to segment, and a serial is read in its slot. Assumes nothing.
use Rattle.std.specs.Prelude.{cond, List, ℕ, zero, suc, ◌+◌, ltb}
use Rattle.codec.specs.Number.{number_at}
use Rattle.flash.specs.Chip.{page_of, header_last}

-- the serial in the header page of a slot
abbrev pub serial_in : List ℕ → ℕ → ℕ
serial_in nand slot = number_at (page_of nand slot header_last) 0 4

-- 1 for a serial below the bound, else 0
abbrev pub one_below : ℕ → ℕ → ℕ
one_below serial bound = cond (ltb serial bound) 1 0

-- how many of the slots 0 to S − 1 have a serial below the bound
unfoldable pub slots_below : (ℕ → ℕ) → ℕ → ℕ → ℕ
slots_below serial zero bound = 0
slots_below serial (suc slot) bound = one_below (serial slot) bound + slots_below serial slot bound
