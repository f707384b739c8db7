-- The worked examples of document 01 ("Proved together as a table with a single theorem"), with those of document 02, W-206: what the
-- definitions that the contracts cite give, beside the paper's figure. Assumes nothing.
use Rattle.std.specs.Prelude.{List, [], ◌∷◌, map, ℕ, ◌-◌, ℤ, pos, neg_ℤ, length, replicate}
use Rattle.bloom.specs.Bloom.{bloom_bit}
use Rattle.lift.specs.Limits.{stored, load_of}
use Rattle.plate.specs.Plate.{plate_of, counts_of}
use Rattle.skiplist.specs.Skip.{level_of}
use Rattle.split.specs.Split.{mid, low, high, midpoint}

abbrev minus : ℕ → ℤ
minus n = neg_ℤ (pos n)

-- one of the three bits of a load; u = load + 50,000 is one less than the load as stored
abbrev pub bit_of : ℕ → ℤ → ℕ
bit_of which load = bloom_bit which (stored load - 1)

-- "loads 500, 510 .. 620", and "thirteen of 500"
abbrev pub rising : List ℤ
rising = map pos (500 ∷ 510 ∷ 520 ∷ 530 ∷ 540 ∷ 550 ∷ 560 ∷ 570 ∷ 580 ∷ 590 ∷ 600 ∷ 610 ∷ 620 ∷ [])

abbrev pub alike : List ℤ
alike = replicate 13 (pos 500)

-- the mid of the root, whose range is (−50,001, 100,000]: by the rule on loads, and by that on stored numbers
abbrev pub root_mid : List ℤ → ℤ
root_mid loads = mid (minus 50001) (pos 100000) (low loads) (high loads)

abbrev pub stored_root_mid : List ℤ → ℤ
stored_root_mid loads = load_of (midpoint (stored (minus 50001)) (stored (pos 100000)) (map stored loads))

-- what is computed, and the paper's figure; the range (499, 500] has its mid whatever is predicted, l and h
unfoldable pub examples : ℤ → ℤ → List (ℤ × ℤ)
examples l h =
    (pos (plate_of (minus 500)), pos 0)
    ∷ (pos (plate_of (pos 250)), pos 0)
    ∷ (pos (plate_of (pos 251)), pos 1)
    ∷ (pos (plate_of (pos 9750)), pos 19)
    ∷ (pos (plate_of (pos 9751)), pos 20)
    ∷ (pos (plate_of (pos 10250)), pos 20)
    ∷ (pos (plate_of (pos 10251)), pos 21)
    ∷ (pos (plate_of (pos 100000)), pos 21)
    ∷ (pos (length (counts_of [])), pos 22)
    ∷ (pos (level_of 1), pos 1)
    ∷ (pos (level_of 2), pos 2)
    ∷ (pos (level_of 8), pos 4)
    ∷ (pos (level_of 16), pos 4)
    ∷ (pos (bit_of 0 (minus 49999)), pos 632)
    ∷ (pos (bit_of 1 (minus 49999)), pos 535)
    ∷ (pos (bit_of 2 (minus 49999)), pos 778)
    ∷ (low rising, pos 630)
    ∷ (high rising, pos 880)
    ∷ (root_mid rising, pos 755)
    ∷ (stored_root_mid rising, pos 755)
    ∷ (root_mid alike, pos 500)
    ∷ (stored_root_mid alike, pos 500)
    ∷ (mid (minus 4) (minus 1) (pos 10) (pos 10), minus 3)
    ∷ (mid (pos 499) (pos 500) l h, pos 500)
    ∷ []
