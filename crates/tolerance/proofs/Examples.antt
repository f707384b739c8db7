-- Loads, ends and grounds worked out by hand from the request (document 02, W-209), by computation; −(n + 1) is `negsuc n`. Assumes
-- nothing.
use mathlib.Core.Path.{◌≡◌, refl}
use mathlib.Core.Bool.{true, false}
use lib.IntN.{pos, negsuc}
use Rattle.lift.specs.Limits.{stored}
use Rattle.tolerance.specs.Tolerance.{is_certain, is_possible, low_end, high_end}
use Rattle.tolerance.specs.Grounds.{tolerance_ground}
use Rattle.tolerance.specs.Inner.Ends.{in_ends, narrowed_ends}

-- ---- one load

-- 100,000 within 1 is 99,999 to 100,001: not all up to 100,000
top_not_certain : is_certain (pos 0) (pos 100000) 1 (pos 100000) ≡ false
unfolding is_certain
top_not_certain = refl

top_possible : is_possible (pos 0) (pos 100000) 1 (pos 100000) ≡ true
unfolding is_possible
top_possible = refl

-- 99,999 within 1 is up to 100,000
below_top_certain : is_certain (pos 0) (pos 100000) 1 (pos 99999) ≡ true
unfolding is_certain
below_top_certain = refl

-- 500 within 1 is 499 to 501: not all from 500 on
bottom_not_certain : is_certain (pos 500) (pos 1000) 1 (pos 500) ≡ false
unfolding is_certain
bottom_not_certain = refl

-- d = 0
top_exact : is_certain (pos 0) (pos 100000) 0 (pos 100000) ≡ true
unfolding is_certain
top_exact = refl

past_range : is_possible (pos 0) (pos 99999) 0 (pos 100000) ≡ false
unfolding is_possible
past_range = refl

-- from 500 to 500 with d = 1: 499 to 501 are possible, none is certain
one_below : is_possible (pos 500) (pos 500) 1 (pos 499) ≡ true
unfolding is_possible
one_below = refl

one_above : is_possible (pos 500) (pos 500) 1 (pos 501) ≡ true
unfolding is_possible
one_above = refl

two_below : is_possible (pos 500) (pos 500) 1 (pos 498) ≡ false
unfolding is_possible
two_below = refl

two_above : is_possible (pos 500) (pos 500) 1 (pos 502) ≡ false
unfolding is_possible
two_above = refl

on_it : is_certain (pos 500) (pos 500) 1 (pos 500) ≡ false
unfolding is_certain
on_it = refl

-- −2 within 3 is −5 to 1
across_zero : is_certain (negsuc 4) (pos 1) 3 (negsuc 1) ≡ true
unfolding is_certain
across_zero = refl

-- ---- ends

low_stops : low_end (negsuc 49499) 1000 ≡ negsuc 49999
unfolding low_end
low_stops = refl

low_below : low_end (negsuc 48499) 1000 ≡ negsuc 49499
unfolding low_end
low_below = refl

high_stops : high_end (pos 99500) 1000 ≡ pos 100000
unfolding high_end
high_stops = refl

high_above : high_end (pos 98000) 1000 ≡ pos 99000
unfolding high_end
high_above = refl

-- narrowed from −50,000 to −49,500 by 1,000: the ends have crossed, no number lies between them
none_between : in_ends (narrowed_ends (stored (negsuc 49999)) (stored (negsuc 49499)) 1000) 1 ≡ false
unfolding stored
none_between = refl

-- ---- grounds

-- "17: d above 1,000"
most_taken : tolerance_ground 0 0 (pos 0) (pos 0) 1000 ≡ 0
unfolding tolerance_ground
most_taken = refl

past_most : tolerance_ground 0 0 (pos 0) (pos 0) 1001 ≡ 17
unfolding tolerance_ground
past_most = refl

-- "before the ranges are compared": 17 and not 6
before_ranges : tolerance_ground 2 1 (pos 2) (pos 1) 1001 ≡ 17
unfolding tolerance_ground
before_ranges = refl

ranges : tolerance_ground 2 1 (pos 1) (pos 2) 1000 ≡ 6
unfolding tolerance_ground
ranges = refl

-- a time and a load past their limits come before it
time_first : tolerance_ground 0 1000000000000000 (pos 100001) (pos 0) 1001 ≡ 4
unfolding tolerance_ground
time_first = refl

load_first : tolerance_ground 0 0 (pos 100001) (pos 0) 1001 ≡ 5
unfolding tolerance_ground
load_first = refl
