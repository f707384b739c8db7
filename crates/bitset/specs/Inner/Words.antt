-- The set as the code holds it: 320 places in five 64-bit words. Assumes nothing.
use Rattle.std.specs.Prelude.{Bool, List, [], ◌∷◌, ℕ, ◌-◌, ◌/◌, ◌%◌, ◌^◌, ◌<◌, eqb, get_or, set, replicate}
use Rattle.std.specs.Int.Bits.{bit_or}
use Rattle.bitset.specs.Set.{picked}

-- binary digit j of n
abbrev pub bit : ℕ → ℕ → ℕ
bit n j = n / 2 ^ j % 2

-- whether place p is in the set
abbrev pub has : List ℕ → ℕ → Bool
has ws p = eqb (bit (get_or ws (p / 64) 0) (p % 64)) 1

-- the set of no place
abbrev pub empty_words : List ℕ
empty_words = replicate 5 0

-- the set with place p
abbrev pub insert_in : List ℕ → ℕ → List ℕ
insert_in ws p = set ws (p / 64) (bit_or (get_or ws (p / 64) 0) (2 ^ (p % 64)))

-- the set with every place of a list
unfoldable pub insert_all : List ℕ → List ℕ → List ℕ
insert_all ws [] = ws
insert_all ws (p ∷ ps) = insert_all (insert_in ws p) ps

-- the set without place p, which is in it
abbrev pub without : List ℕ → ℕ → List ℕ
without ws p = set ws (p / 64) (get_or ws (p / 64) 0 - 2 ^ (p % 64))

-- the set's places, lowest first
unfoldable pub members : List ℕ → List ℕ
members ws = picked (has ws) 0 320

-- each number of the list is a place below n
abbrev pub Below : ℕ → List ℕ → Type 0
Below n [] = Unit {0}
Below n (p ∷ ps) = (p < n) × Below n ps
