-- Where a full bucket is split (document 01, "Tree", from "Prediction" on): over the integers, and on stored numbers.
-- Assumes nothing.
use Rattle.std.specs.Prelude.{cond, ◌&&◌, List, [], ◌∷◌, map, ℕ, zero, suc, ℤ, pos, negsuc, neg_ℤ, ◌+ℤ◌, ◌-ℤ◌, ◌*ℤ◌}
use Rattle.std.specs.Int.Signed.{lt_z, le_z, shr_z}
use Rattle.lift.specs.Limits.{stored, load_of}

-- the quotient by a divisor, "rounded down" and "rounded up"
abbrev pub floor_div : ℤ → ℕ → ℤ
floor_div z m = shr_z z m

abbrev pub ceil_div : ℤ → ℕ → ℤ
ceil_div z m = neg_ℤ (floor_div (neg_ℤ z) m)

-- "the smaller" and "the larger"
abbrev pub min_z : ℤ → ℤ → ℤ
min_z a b = cond (le_z a b) a b

abbrev pub max_z : ℤ → ℤ → ℤ
max_z a b = cond (le_z a b) b a

-- (a+b)/2, "halves rounded down"
abbrev pub halfway : ℤ → ℤ → ℤ
halfway a b = floor_div (a +ℤ b) 2

abbrev pub twice : ℤ → ℤ
twice a = a +ℤ a

-- "Mid is the first that applies": the overlap of the range (x, y] with l..h as a small number, 0 to 4
unfoldable pub overlap : ℤ → ℤ → ℤ → ℤ → ℕ
overlap x y l h =
    cond (lt_z x l && lt_z h y) 0
    (cond (le_z l x && le_z y h) 1
    (cond (le_z l x && (lt_z x h && le_z h y)) 2
    (cond (le_z x l && (lt_z l y && le_z y h)) 3
    4)))

-- the midpoint rule for each case: "(l+h)/2", "(x+y)/2", "(x+h)/2 if 2(h−x)>h−l, else the larger of h and (x+y)/2",
-- "(l+y)/2 if 2(y−l)>h−l, else the smaller of l and (x+y)/2", "otherwise (x+y)/2"
unfoldable pub rule : ℕ → ℤ → ℤ → ℤ → ℤ → ℤ
rule zero x y l h = halfway l h
rule (suc zero) x y l h = halfway x y
rule (suc (suc zero)) x y l h = cond (lt_z (h -ℤ l) (twice (h -ℤ x))) (halfway x h) (max_z h (halfway x y))
rule (suc (suc (suc zero))) x y l h = cond (lt_z (h -ℤ l) (twice (y -ℤ l))) (halfway l y) (min_z l (halfway x y))
rule (suc (suc (suc (suc n)))) x y l h = halfway x y

-- "Then it is brought into x+1..y−1; if y=x+1, mid is y"
unfoldable pub bring : ℤ → ℤ → ℤ → ℤ
bring m x y = cond (le_z y (x +ℤ pos 1)) y (min_z (max_z m (x +ℤ pos 1)) (y -ℤ pos 1))

unfoldable pub mid : ℤ → ℤ → ℤ → ℤ → ℤ
mid x y l h = bring (rule (overlap x y l h) x y l h) x y

-- "A = sum of yᵢ"
unfoldable pub sum : List ℤ → ℤ
sum [] = pos 0
sum (y ∷ ys) = y +ℤ sum ys

-- the sum of w yᵢ, with a weight w that goes up by one from load to load
unfoldable pub weighed : ℤ → List ℤ → ℤ
weighed w [] = pos 0
weighed w (y ∷ ys) = w *ℤ y +ℤ weighed (w +ℤ pos 1) ys

-- "D = sum of (i−6)yᵢ"; `negsuc 5` is −6
unfoldable pub slope : List ℤ → ℤ
slope ys = weighed (negsuc 5) ys

-- "fitted values (14A+7D)/182 and (14A+32D)/182": what is divided, for k = 7 and k = 32
unfoldable pub fitted : ℕ → ℤ → ℤ → ℤ
fitted k a d = pos 14 *ℤ a +ℤ pos k *ℤ d

-- "l is the smaller rounded down, h the larger rounded up", of A and D, and of the loads
unfoldable pub low_from : ℤ → ℤ → ℤ
low_from a d = floor_div (min_z (fitted 7 a d) (fitted 32 a d)) 182

unfoldable pub high_from : ℤ → ℤ → ℤ
high_from a d = ceil_div (max_z (fitted 7 a d) (fitted 32 a d)) 182

unfoldable pub low : List ℤ → ℤ
low ys = low_from (sum ys) (slope ys)

unfoldable pub high : List ℤ → ℤ
high ys = high_from (sum ys) (slope ys)

-- the mid of a bucket with range (x, y], from the last loads, all as stored
unfoldable pub midpoint : ℕ → ℕ → List ℕ → ℕ
midpoint x y codes = stored (mid (load_of x) (load_of y) (low (map load_of codes)) (high (map load_of codes)))
