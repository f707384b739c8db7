-- What is printed (document 01, "Program"): numbers right-justified in columns. Assumes nothing.
use Rattle.std.specs.Prelude.{Bool, true, false, cond, List, [], ◌∷◌, ◌++◌, ℕ, zero, suc, ◌+◌, ◌/◌, ◌%◌, ltb, ℤ, pos, negsuc, length, drop}
use Rattle.codec.specs.Area.{repeated}

-- ---- a number right-justified

-- the character of a digit: 48 for 0
abbrev pub digit : ℕ → ℕ
digit d = 48 + d

-- the digits of a number that has at most n: those of its tenth, then its last one
unfoldable pub digits_within : ℕ → ℕ → List ℕ
digits_within zero v = []
digits_within (suc n) v = cond (ltb v 10) (digit v ∷ []) (digits_within n (v / 10) ++ (digit (v % 10) ∷ []))

-- the digits of a number, none leading but that of 0 itself; v + 1 are always enough
unfoldable pub digits : ℕ → List ℕ
digits v = digits_within (suc v) v

-- its digits, after a minus (45) or none
abbrev pub numeral : Bool → ℕ → List ℕ
numeral minus v = cond minus (45 ∷ digits v) (digits v)

abbrev pub spaces : ℕ → List ℕ
spaces n = repeated n 32

-- a text in w columns: spaces, then the text; of a longer one its last w characters
unfoldable pub justified : ℕ → List ℕ → List ℕ
justified w text = drop (length text) (spaces w ++ text)

-- a number in w columns, with a minus before it or none
abbrev pub columns : ℕ → Bool → ℕ → List ℕ
columns w minus v = justified w (numeral minus v)

abbrev pub number : ℕ → ℕ → List ℕ
number w v = columns w false v

-- ---- the answers

-- "letter and number (3 columns, 0 accepted)"
abbrev pub head_bytes : ℕ → ℕ → List ℕ
head_bytes letter n = letter ∷ number 3 n

-- "the count (7)"
abbrev pub count_bytes : ℕ → List ℕ
count_bytes n = number 7 n

-- counts, "(7 each)"
unfoldable pub counts_bytes : List ℕ → List ℕ
counts_bytes [] = []
counts_bytes (n ∷ ns) = count_bytes n ++ counts_bytes ns

-- a load in 8 columns; −(n + 1) is `negsuc n`
unfoldable pub load_bytes : ℤ → List ℕ
load_bytes (pos n) = columns 8 false n
load_bytes (negsuc n) = columns 8 true (suc n)

-- "a line per lift in the same columns without a letter"
abbrev pub lift_bytes : ℕ → ℤ → List ℕ
lift_bytes time load = number 15 time ++ load_bytes load
