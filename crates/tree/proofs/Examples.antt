-- Trees and searches by computation: 13 and 14 equal loads, and a root with two children. Assumes nothing.
use Prim.Native.Nat.{ℕ, ◌+◌}
use mathlib.Core.Path.{◌≡◌, refl}
use mathlib.Core.Option.{Option, none, some}
use mathlib.Core.List.{List, [], ◌∷◌, ◌++◌}
use lib.ListN.{replicate}
use Rattle.lift.specs.Limits.{stored}
use Rattle.split.specs.Split.{overlap, rule, bring, mid, sum, weighed, slope, fitted, low_from, high_from, low, high, midpoint}
use Rattle.tree.specs.Rules.{Entry, Bucket, whole, split, root, descend, allocate, put, last_loads, insert, insert_more}
use Rattle.tree.specs.Rules.{tree_of}
use Rattle.tree.specs.Search.{hits}
use Rattle.tree.specs.Inner.Find.{find_from, find}

-- entries from position p on
abbrev pub entries : ℕ → List ℕ → List Entry
entries p [] = []
entries p (l ∷ ls) = record { load = l; position = p } ∷ entries (p + 1) ls

-- 500, as stored
abbrev pub equal : ℕ → List ℕ
equal n = replicate n 50501

-- 500, 510 .. 620: the root's mid is 755
abbrev pub rising : List ℕ
rising =
    50501 ∷ 50511 ∷ 50521 ∷ 50531 ∷ 50541 ∷ 50551 ∷ 50561 ∷ 50571 ∷ 50581 ∷ 50591 ∷ 50601 ∷ 50611 ∷ 50621 ∷ []

abbrev pub split_root : ℕ → Option ℕ → Option ℕ → List ℕ → Bucket
split_root m a c ls = record { x = 0; y = 150001; kids = split m a c; entries = entries 0 ls }

abbrev pub leaf : ℕ → ℕ → List Entry → Bucket
leaf x y es = record { x = x; y = y; kids = whole; entries = es }

-- after the rising loads, 900 goes right of 755 and 755 goes left
abbrev pub grown : List Bucket
grown =
    split_root 50756 (some 2) (some 1) rising
    ∷ leaf 50756 150001 (entries 13 (50901 ∷ []))
    ∷ leaf 0 50756 (entries 14 (50756 ∷ []))
    ∷ []

-- thirteen equal loads fill the root; the fourteenth splits it at that load and goes left
abbrev pub thirteen : List Bucket
thirteen = root (entries 0 (equal 13)) ∷ []

abbrev pub fourteen : List Bucket
fourteen = split_root 50501 (some 1) none (equal 13) ∷ leaf 0 50501 (entries 13 (equal 1)) ∷ []

trees :
    (tree_of (equal 13) ≡ some thirteen)
    × (tree_of (equal 14) ≡ some fourteen)
    × (tree_of (rising ++ (50901 ∷ 50756 ∷ [])) ≡ some grown)
unfolding tree_of insert_more insert descend put allocate last_loads
    midpoint mid overlap rule bring low high low_from high_from fitted slope sum weighed stored
trees = (refl, refl, refl)

-- the loads from 600 to 900, in the order of the buckets; 755 alone; 756 to 900
searches :
    (find 50601 50901 grown ≡ 10 ∷ 11 ∷ 12 ∷ 13 ∷ 14 ∷ [])
    × (find 50756 50756 grown ≡ 14 ∷ [])
    × (find 50757 50901 grown ≡ 13 ∷ [])
unfolding find find_from hits
searches = (refl, refl, refl)
