-- Pairs of rows, worked out by hand from the request (document 02, W-208), by computation. Assumes nothing.
use mathlib.Core.Path.{◌≡◌, refl}
use mathlib.Core.Bool.{true, false}
use mathlib.Core.List.{List, [], ◌∷◌, ◌++◌}
use Prim.Native.Nat.{ℕ}
use Rattle.codec.specs.Area.{part}
use Rattle.codec.specs.Number.{le, bytes}
use Rattle.lift.specs.Record.{record_bytes}
use Rattle.supersets.specs.Pairs.{first_fit, without_fit, pairs_of, joins, pair_rows}

-- the row of a lift by a member at a time, with no load on; its last 16 note bytes hold a number of our own
row : ℕ → ℕ → ℕ → List ℕ
row member time own = record_bytes time 50001 (bytes 4 member ++ bytes 16 own)

-- "later by 1 to 30,000 ms"
at_once : joins (row 7 1000000 0) (row 7 1000000 0) ≡ false
unfolding joins row record_bytes bytes part le
at_once = refl

just_later : joins (row 7 1000000 0) (row 7 1000001 0) ≡ true
unfolding joins row record_bytes bytes part le
just_later = refl

last_moment : joins (row 7 1000000 0) (row 7 1030000 0) ≡ true
unfolding joins row record_bytes bytes part le
last_moment = refl

too_late : joins (row 7 1000000 0) (row 7 1030001 0) ≡ false
unfolding joins row record_bytes bytes part le
too_late = refl

before : joins (row 7 1000000 0) (row 7 999999 0) ≡ false
unfolding joins row record_bytes bytes part le
before = refl

-- "by the same member, other than 0"
another_member : joins (row 7 1000000 0) (row 8 1000001 0) ≡ false
unfolding joins row record_bytes bytes part le
another_member = refl

-- all four bytes count
far_member : joins (row 7 1000000 0) (row 16777223 1000001 0) ≡ false
unfolding joins row record_bytes bytes part le
far_member = refl

no_member : joins (row 0 1000000 0) (row 0 1000001 0) ≡ false
unfolding joins row record_bytes bytes part le
no_member = refl

-- equal records are used once each: two lifts against two equal ones make two pairs, three make no third
equal_records : pair_rows (row 7 1000000 0 ∷ row 7 1000000 0 ∷ row 7 1000000 0 ∷ []) (row 7 1000001 0 ∷ row 7 1000001 0 ∷ [])
    ≡ (row 7 1000000 0 ++ row 7 1000001 0) ∷ (row 7 1000000 0 ++ row 7 1000001 0) ∷ []
unfolding pair_rows pairs_of first_fit without_fit joins row record_bytes bytes part le
equal_records = refl

-- a lift takes what a later one, nearer to it, wanted too; that one joins the next, or stands alone where there is none
taken_before : pair_rows (row 7 1000000 1 ∷ row 7 1020000 2 ∷ []) (row 7 1025000 3 ∷ []) ≡ (row 7 1000000 1 ++ row 7 1025000 3) ∷ []
unfolding pair_rows pairs_of first_fit without_fit joins row record_bytes bytes part le
taken_before = refl

next_one : pair_rows (row 7 1000000 1 ∷ row 7 1020000 2 ∷ []) (row 7 1025000 3 ∷ row 7 1026000 4 ∷ [])
    ≡ (row 7 1000000 1 ++ row 7 1025000 3) ∷ (row 7 1020000 2 ++ row 7 1026000 4) ∷ []
unfolding pair_rows pairs_of first_fit without_fit joins row record_bytes bytes part le
next_one = refl
