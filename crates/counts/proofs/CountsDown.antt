-- The counts of a list of lifts, followed as lifts come and go: with a lift more they are those of the list with it, in whatever order; less
-- some of the list they are those of the rest. A lift less undoes a lift more, so no count falls below zero on the way. Assumes nothing.
use mathlib.Core.Path.{◌≡◌, refl, sym, ap, ◌∙◌}
use mathlib.Core.Bool.{true}
use mathlib.Core.Option.{some}
use mathlib.Core.List.{List, [], ◌∷◌, ◌++◌}
use Prim.Native.Nat.{ℕ, ◌+◌, ◌-◌}
use native.Mathlib.Omega.{arith}
use lib.ListN.{set}
use lib.Seq.{get_or-set_same, set-set, set-get_or}
use borrow.Author.Tests.{lt-ltb}
use Rattle.lift.specs.Limits.{load_of, code_ok}
use Rattle.plate.specs.Plate.{plate_of, counts_of}
use Rattle.plate.proofs.Bands.{plate_small}
use Rattle.plate.proofs.Counts.{count_append, length_counts, same_counts, counts_more}
use Rattle.counts.specs.Counts.{count_for, one_more, one_less, counted_down}

-- stored loads that are all within the limits
abbrev pub CodesOk : List ℕ → Type 0
CodesOk [] = Unit {0}
CodesOk (code ∷ codes) = (code_ok code ≡ true) × CodesOk codes

-- a lift more, last
pub one_more_lem : (codes : List ℕ) (code : ℕ) → one_more (counts_of codes) code ≡ counts_of (codes ++ (code ∷ []))
unfolding one_more
one_more_lem codes code =
    counts_more codes code
    ∙ same_counts (code ∷ codes) (codes ++ (code ∷ [])) (λ n.
    omega (arith, count_append n (code ∷ []) codes, count_append n codes (code ∷ [])))

module _ (codes : List ℕ) (code : ℕ) where
  abbrev counts : List ℕ
  counts = counts_of codes

  abbrev place : ℕ
  place = plate_of (load_of code)

  one_there : count_for (counts_of (code ∷ codes)) code ≡ count_for (counts_of codes) code + 1
  one_there =
      ap (λ (cs : List ℕ). count_for cs code) (sym (counts_more codes code))
      ∙ get_or-set_same counts place (count_for counts code + 1) 0 (omega (arith, plate_small (load_of code), length_counts codes))

  -- the lift less again
  one_less_lem : one_less (counts_of (code ∷ codes)) code ≡ counts_of codes
  unfolding one_less
  one_less_lem =
      let n : count_for (counts_of (code ∷ codes)) code - 1 ≡ count_for counts code = omega (arith, one_there) in
      rw n (ap (λ (cs : List ℕ). set cs place (count_for counts code)) (sym (counts_more codes code))
      ∙ set-set counts place (count_for counts code + 1) (count_for counts code) ∙ set-get_or counts place 0)

-- the first lifts of a list less
pub counted_down_lem : (codes rest : List ℕ) → CodesOk codes → counted_down (counts_of (codes ++ rest)) codes ≡ some (counts_of rest)
unfolding counted_down
counted_down_lem [] rest ok = refl
counted_down_lem (code ∷ codes) rest ok =
    let some_there = lt-ltb 0 (count_for (counts_of (code ∷ codes ++ rest)) code) (omega (arith, one_there (codes ++ rest) code)) in
    rw (ok.0, some_there, one_less_lem (codes ++ rest) code) (counted_down_lem codes rest ok.1)
