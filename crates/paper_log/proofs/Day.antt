-- A day on the paper log of a store of two slots, by computation: every number that it gives, and what is found at the end. Assumes nothing.
use mathlib.Core.Path.{◌≡◌, refl}
use mathlib.Core.List.{List, [], ◌∷◌, ◌++◌, map}
use Prim.Native.Nat.{ℕ, ◌*◌}
use lib.IntN.{ℤ, pos, negsuc}
use lib.ListN.{replicate}
use Rattle.lift.specs.Limits.{stored}
use Rattle.tree.specs.Rules.{needs_bucket36, tree_of, insert_more, insert, descend, allocate}
use Rattle.tree.specs.Rules as Tree
use Rattle.form.specs.declared.Form.{Form}
use Rattle.form.specs.Forms.{step}
use Rattle.form.specs.declared.Form.TheVariants.{Old, New}
use Rattle.paper_log.specs.Log.{Lift, begun, close_log, drop_log, is_full, room_log, shed_log, put_log, append_log, among, joined, found}
use Rattle.paper_log.specs.Calls.{Call, append, close, drop, search, number_of, after, rows_of, stepped, answered, log_after, answers}

abbrev lift : ℕ → ℤ → Lift
lift t k = record { time = t; load = k; note = replicate 20 0 }

abbrev put : ℕ → ℤ → Call
put t k = append 2 (lift t k)

abbrev all : ℕ → Call
all rows = search 2 0 999999999999999 (negsuc 49999) (pos 100000) rows

abbrev numbers : List Call → List ℕ
numbers cs = map (λ a. a.number) (answers (begun New 2) cs)

-- grounds 1, 4, 5, 6, 7, 9 and 12; a search finds the second lift alone
abbrev morning : List Call
morning =
    put 1000 (pos 250) ∷ put 2000 (pos 751) ∷ put 1999 (pos 300) ∷ put 3000 (pos 100001) ∷ put 1000000000000000 (pos 300)
    ∷ append 3 (lift 3000 (pos 300)) ∷ search 2 0 3000 (pos 251) (pos 1000) 1 ∷ search 2 0 3000 (pos 251) (pos 1000) 0
    ∷ search 2 3000 0 (pos 251) (pos 1000) 1 ∷ drop 2 ∷ close 2 ∷ close 2 ∷ []

-- serials 2 and 3 close; with S = 2 serial 1 goes with the first lift of serial 3, serial 2 with that of serial 4. The last two lifts
-- are two arms at one time, with a close between them.
abbrev evening : List Call
evening = put 3000 (negsuc 99) ∷ close 2 ∷ put 4000 (pos 400) ∷ close 2 ∷ put 4000 (pos 500) ∷ all 2 ∷ []

pub numbers_of_a_day :
    (numbers morning ≡ 0 ∷ 0 ∷ 7 ∷ 5 ∷ 4 ∷ 1 ∷ 0 ∷ 12 ∷ 6 ∷ 9 ∷ 0 ∷ 9 ∷ [])
    × (numbers (morning ++ evening) ≡ 0 ∷ 0 ∷ 7 ∷ 5 ∷ 4 ∷ 1 ∷ 0 ∷ 12 ∷ 6 ∷ 9 ∷ 0 ∷ 9 ∷ 0 ∷ 0 ∷ 0 ∷ 0 ∷ 0 ∷ 0 ∷ [])
unfolding number_of after rows_of stepped answered answers log_after begun close_log drop_log is_full room_log shed_log put_log append_log among joined found stored
    needs_bucket36 tree_of insert_more insert descend allocate Tree.put
numbers_of_a_day = (refl, refl)

-- what is held at the end: serial 3 and the open serial 4
pub held_at_night : log_after (begun New 2) (morning ++ evening) ≡ record {
  form = New;
  slots = 2;
  oldest = 3;
  closed = (lift 4000 (pos 400) ∷ []) ∷ [];
  current = lift 4000 (pos 500) ∷ [];
  next = 4000;
}
unfolding number_of after rows_of stepped answered answers log_after begun close_log drop_log is_full room_log shed_log put_log append_log among joined found stored
    needs_bucket36 tree_of insert_more insert descend allocate Tree.put
held_at_night = refl

-- and what a search finds there: equal loads, the one time of both arms, everything
pub found_at_night :
    (found (log_after (begun New 2) (morning ++ evening)) 0 9000 (pos 500) (pos 500) ≡ lift 4000 (pos 500) ∷ [])
    × (found (log_after (begun New 2) (morning ++ evening)) 4000 4000 (negsuc 49999) (pos 100000)
    ≡ lift 4000 (pos 400) ∷ lift 4000 (pos 500) ∷ [])
    × (found (log_after (begun New 2) (morning ++ evening)) 0 9000 (negsuc 49999) (pos 100000)
    ≡ lift 4000 (pos 400) ∷ lift 4000 (pos 500) ∷ [])
unfolding number_of after rows_of stepped answered answers log_after begun close_log drop_log is_full room_log shed_log put_log append_log among joined found stored
    needs_bucket36 tree_of insert_more insert descend allocate Tree.put
found_at_night = (refl, refl, refl)

-- the lifts of one serial "by .. arrival"
pub found_at_noon : found (log_after (begun New 2) morning) 0 9000 (negsuc 49999) (pos 100000) ≡ lift 1000 (pos 250) ∷ lift 2000 (pos 751) ∷ []
unfolding number_of after rows_of stepped answered answers log_after begun close_log drop_log is_full room_log shed_log put_log append_log among joined found stored
    needs_bucket36 tree_of insert_more insert descend allocate Tree.put
found_at_noon = refl

-- form 0 refuses the second arm
pub second_arm : (f : Form) → map (λ a. a.number) (answers (begun f 2) (put 1000 (pos 250) ∷ put 1000 (pos 300) ∷ [])) ≡ 0 ∷ 7 * step f ∷ []
unfolding number_of after rows_of stepped answered answers begun close_log drop_log is_full room_log shed_log put_log append_log among joined found stored
    needs_bucket36 tree_of insert_more insert descend allocate Tree.put
second_arm Old = refl
second_arm New = refl
