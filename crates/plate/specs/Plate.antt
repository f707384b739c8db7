-- Plates (document 01, "Plates"; document 02, W-206): the plate of a lift in a tally, and the counts by plate. Assumes nothing.
use Rattle.std.specs.Prelude.{Bool, cond, ◌&&◌, List, [], ◌∷◌, ℕ, zero, suc, ◌+◌, ◌*◌, eqb, ℤ, pos, replicate}
use Rattle.std.proofs.Math.IntN.{sub_ℕ}
use Rattle.std.specs.Int.Signed.{lt_z, le_z}
use Rattle.lift.specs.Limits.{load_of}
use Rattle.plate.specs.Stack.{plate_on}

-- the stack that a tally goes by
abbrev pub twenty_of500 : List ℕ
twenty_of500 = replicate 20 500

-- plates 0 to 20, and 21 beyond the stack
abbrev pub plates : ℕ
plates = 22

-- the plate of a load, by the rule for any stack
unfoldable pub plate_of : ℤ → ℕ
plate_of load = plate_on twenty_of500 load

-- its band in the papers' words: "0 up to 250; n for 500n−250 < load ≤ 500n+250", and "a load above 10,250 is now called plate 21, and
-- 9,751 to 10,250 stays 20"
unfoldable pub in_band : ℕ → ℤ → Bool
in_band n load =
    cond (eqb n 0) (le_z load (pos 250))
    (cond (eqb n 21) (lt_z (pos 10250) load)
    (lt_z (sub_ℕ (500 * n) 250) load && le_z load (pos (500 * n + 250))))

-- how many of these stored loads have plate n
unfoldable pub count_at : ℕ → List ℕ → ℕ
count_at n [] = 0
count_at n (code ∷ codes) = cond (eqb (plate_of (load_of code)) n) (suc (count_at n codes)) (count_at n codes)

-- the counts of k plates from n on
unfoldable pub counts_from : ℕ → ℕ → List ℕ → List ℕ
counts_from zero n codes = []
counts_from (suc k) n codes = count_at n codes ∷ counts_from k (suc n) codes

-- "The tally and T have 22 counts": of these stored loads, by plate
unfoldable pub counts_of : List ℕ → List ℕ
counts_of codes = counts_from plates 0 codes

-- the counts of no lift
abbrev pub no_counts : List ℕ
no_counts = replicate plates 0
