-- Document 01, "Bloom and skip list": sections of 1,024 bits and the three bits of a load. Inside the store a load is its code,
-- load + 50,001, so the paper's u = load + 50,000 is code - 1.
use Rattle.std.specs.Prelude.{Bool, false, ◌&&◌, ◌||◌, List, [], ◌∷◌, ℕ, zero, suc, ◌-◌, ◌*◌, ◌/◌, ◌%◌, ◌^◌, eqb, get_or, set}
use Rattle.std.specs.Int.Bits.{bit_or}
use Rattle.codec.specs.Area.{repeated}

-- A of the first, the second and the third bit
unfoldable pub multiplier : ℕ → ℕ
multiplier zero = 2_654_435_761
multiplier (suc zero) = 2_246_822_519
multiplier (suc (suc n)) = 3_266_489_917

-- "(u × A mod 2³²) div 2²²"
unfoldable pub bloom_bit : ℕ → ℕ → ℕ
bloom_bit which u = u * multiplier which % 2 ^ 32 / 2 ^ 22

-- "bit b is mask 128 shifted right by b mod 8 in byte b div 8"
abbrev pub mask : ℕ → ℕ
mask b = 128 / 2 ^ (b % 8)

-- whether bit b is set in its byte x
abbrev pub in_byte : ℕ → ℕ → Bool
in_byte x b = eqb (x / mask b % 2) 1

abbrev pub is_set : List ℕ → ℕ → Bool
is_set s b = in_byte (get_or s (b / 8) 0) b

-- the section with bit b set
abbrev pub set_in : List ℕ → ℕ → List ℕ
set_in s b = set s (b / 8) (bit_or (get_or s (b / 8) 0) (mask b))

-- the section with the three bits of a code set
unfoldable pub noted : List ℕ → ℕ → List ℕ
noted s code = set_in (set_in (set_in s (bloom_bit 0 (code - 1))) (bloom_bit 1 (code - 1))) (bloom_bit 2 (code - 1))

-- the section with every code of a list noted
unfoldable pub noted_all : List ℕ → List ℕ → List ℕ
noted_all s [] = s
noted_all s (code ∷ codes) = noted_all (noted s code) codes

-- "sections of 128", 1,024 bits, each of 64 lifts
abbrev pub section_width : ℕ
section_width = 128

abbrev pub lifts_per_section : ℕ
lifts_per_section = 64

unfoldable pub empty_section : List ℕ
empty_section = repeated section_width 0

-- the section of up to 64 lifts, by their codes
unfoldable pub section_of : List ℕ → List ℕ
section_of codes = noted_all empty_section codes

-- whether a test passes at each of a code's three bits
unfoldable pub at_bits : (ℕ → Bool) → ℕ → Bool
at_bits f code = f (bloom_bit 0 (code - 1)) && (f (bloom_bit 1 (code - 1)) && f (bloom_bit 2 (code - 1)))

-- whether some section has bit b
unfoldable pub some_set : List (List ℕ) → ℕ → Bool
some_set [] b = false
some_set (s ∷ ss) b = is_set s b || some_set ss b

-- not "passed over .. if some hash bit is clear in all sections"
unfoldable pub may_hold : List (List ℕ) → ℕ → Bool
may_hold ss code = at_bits (some_set ss) code
