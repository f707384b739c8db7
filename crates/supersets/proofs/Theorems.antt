-- What the pairs of any two lists are, whatever fits what (document 02, W-208): "Each lift of the first machine, in turn, joins the first
-- unused lift of the second" that fits, "in the order of the first machine's lifts, no lift in two pairs". Assumes nothing.
use mathlib.Core.Path.{◌≡◌, sym, ap, ap₂, ◌∙◌}
use mathlib.Core.Bool.{Bool, true, false}
use mathlib.Core.Option.{some}
use mathlib.Core.List.{List, ◌∷◌, ◌++◌, map}
use Prim.Native.Nat.{ℕ}
use Rattle.bitset.specs.Set.{elem}
use Rattle.supersets.specs.Pairs.{first_fit, pairs_of, joins, side_by_side, pair_rows}
use Rattle.codec.specs.Lists.{Part}
use Rattle.supersets.specs.Places.{NoTwice, Rises, OneOf, Placed, placed, places_of, fits_at, pairs_at}
use Rattle.supersets.specs.Places.{unplaced, firsts, seconds, unused_by}
use Rattle.supersets.proofs.Parts.{part_trans, part_map}
use Rattle.supersets.proofs.Numbers.{part_rises, rises_once}
use Rattle.supersets.proofs.Fitting.{found_fits, found_one, firsts_part}
use Rattle.supersets.proofs.Unused as Unused
use Rattle.supersets.proofs.Placing.{placed_rises, lifts_placed, pairs_forgot}

module _ {A : Type 0} (fits : A → A → Bool) (first second : List A) where
  -- without the places they are the pairs
  pub pairs_are : map unplaced (pairs_at fits first second) ≡ pairs_of fits first second
  pairs_are =
      pairs_forgot fits (placed 0 first) (placed 0 second)
      ∙ ap₂ {C = List (A × A)} (pairs_of fits) (lifts_placed 0 first) (lifts_placed 0 second)

  -- ---- the first machine's lifts

  -- they are part of its list, in its order: places rise, and none stands twice
  pub in_order : Part (firsts (pairs_at fits first second)) (placed 0 first)
  in_order = firsts_part (fits_at fits) (placed 0 first) (placed 0 second)

  pub firsts_rise : Rises 0 (places_of (firsts (pairs_at fits first second)))
  firsts_rise = part_rises 0 (part_map (λ (x : Placed A). x.0) in_order) (placed_rises 0 first)

  pub firsts_once : NoTwice (places_of (firsts (pairs_at fits first second)))
  firsts_once = rises_once 0 (places_of (firsts (pairs_at fits first second))) firsts_rise

  -- ---- the second machine's lifts

  placed_once : NoTwice (places_of (placed 0 second))
  placed_once = rises_once 0 (places_of (placed 0 second)) (placed_rises 0 second)

  module _ (earlier later : List (Placed A × Placed A)) (p : Placed A × Placed A)
      (is : pairs_at fits first second ≡ earlier ++ (p ∷ later)) where
    -- of each pair the second is the first lift of its list that fits and is in no earlier pair
    pub first_fitting : first_fit (fits_at fits) p.0 (unused_by earlier (placed 0 second)) ≡ some p.1
    first_fitting = Unused.first_unused (fits_at fits) (placed 0 first) (placed 0 second) placed_once earlier later p is

    -- so the two fit, and the second is one of its list
    pub pair_fits : fits p.0.1 p.1.1 ≡ true
    pair_fits = found_fits (fits_at fits) p.0 (unused_by earlier (placed 0 second)) p.1 first_fitting

    pub second_stands : OneOf p.1 (placed 0 second)
    second_stands =
        part_trans (Unused.unused_part earlier (placed 0 second))
        (found_one (fits_at fits) p.0 (unused_by earlier (placed 0 second)) p.1 first_fitting)

  -- "no lift in two pairs"
  pub seconds_once : NoTwice (places_of (seconds (pairs_at fits first second)))
  seconds_once = Unused.seconds_once (fits_at fits) (placed 0 first) (placed 0 second) placed_once

  -- ---- the lifts that stand alone

  -- two of them, one of each list, do not fit
  pub none_left : (a b : Placed A) → OneOf a (placed 0 first) → elem a.0 (places_of (firsts (pairs_at fits first second))) ≡ false
      → OneOf b (placed 0 second) → elem b.0 (places_of (seconds (pairs_at fits first second))) ≡ false → fits a.1 b.1 ≡ false
  none_left a b i m j n = Unused.left_over (fits_at fits) (placed 0 first) (placed 0 second) placed_once a b i m j n

-- ---- rows

-- "its two records side by side (64 bytes)", pair by pair
pub rows_are : (first second : List (List ℕ)) → pair_rows first second ≡ map side_by_side (map unplaced (pairs_at joins first second))
unfolding pair_rows
rows_are first second = ap (map side_by_side) (sym (pairs_are joins first second))
