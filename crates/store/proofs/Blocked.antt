-- Grounds 10 and 11 of an append, as tested: on the state as it is, or as a close in the same call leaves it. After a close NOR is
-- erased, so what is due for writing is 255. Assumes nothing.
use mathlib.Core.Path.{◌≡◌, refl, sym, ap, ◌∙◌}
use mathlib.Core.Bool.{Bool, true, false, not, ◌&&◌, ◌||◌, false≢true}
use mathlib.Core.List.{List, []}
use Prim.Native.Nat.{ℕ, ◌+◌, ◌/◌, ◌%◌, ◌≤◌}
use native.Mathlib.Omega.{arith}
use lib.Dec.{eqb}
use lib.IntN.{ℤ}
use lib.ListN.{length}
use Rattle.codec.proofs.Truth.{or_false, not_twice}
use Rattle.codec.specs.Area.{part, repeated, all_ones}
use Rattle.codec.proofs.Areas.{part_repeated, ones_repeated}
use Rattle.flash.specs.Chip.{slot_of, page_erased}
use Rattle.segment.specs.Pages.{close_erased}
use Rattle.tree.specs.Place.{bucket_start}
use Rattle.tree.specs.Plan.{Plan, damaged, no_room, new_root, into_bucket, new_child, split_bucket, is_damaged, is_no_room}
use Rattle.tree.specs.Writes.{writes_of, all_clear}
use Rattle.bounds.specs.Grounds.{ground}
use Rattle.store.specs.declared.State.{State}
use Rattle.store.specs.World.{World, world, close_world, moved_on, fills_page}
use Rattle.store.specs.Calls.{room_world, nor_clear, append_damage, append_unerased, drops_first}
use Rattle.store.specs.Inner.Pieces.{later_ground}

-- ---- damage on the path

pub damaged_later : (w : World) (slots : ℕ) (load : ℤ) (p : Plan) (d : Bool) → d ≡ is_damaged p → d ≡ true
    → 10 ≡ later_ground w slots load p
unfolding later_ground append_damage
damaged_later w slots load p d e h = rw (← e, h)

-- the plan that closes first
pub full_is : (p : Plan) → is_no_room p ≡ true → p ≡ no_room
full_is damaged e = absurd (false≢true e)
full_is no_room e = refl
full_is new_root e = absurd (false≢true e)
full_is (into_bucket b i) e = absurd (false≢true e)
full_is (new_child b side x y) e = absurd (false≢true e)
full_is (split_bucket b m side x y) e = absurd (false≢true e)

-- ---- without a close

-- a forced drop meets no damage
no_drop : (first clear : Bool) → ((first && false) || not clear) ≡ not clear
no_drop true clear = refl
no_drop false clear = refl

module _ (nand nor : List ℕ) (s : State) (slots : ℕ) (load : ℤ) (p : Plan) (sound : is_damaged p ≡ false) (room : is_no_room p ≡ false)
    (clear : Bool) (cleared : clear ≡ nor_clear (world [] nor s) load p) where
  abbrev w : World
  w = world nand nor s

  damage : append_damage w slots load p ≡ not clear
  unfolding append_damage nor_clear
  damage = rw sound (no_drop (drops_first s slots) (nor_clear w load p) ∙ ap not (sym cleared))

  stays : room_world w slots p ≡ w
  unfolding room_world
  stays = rw room

  later : later_ground w slots load p ≡ ground 10 (not clear) (ground 11 (append_unerased w w slots p) 0)
  unfolding later_ground
  later = rw (stays, damage)

  pub put_damaged : not clear ≡ true → 10 ≡ later_ground w slots load p
  put_damaged h = rw (later, h)

  pub put_unerased : (slot : ℕ) (free : Bool) → not clear ≡ false → slot ≡ slot_of s.current slots
      → free ≡ not (eqb (s.count % 16) 15 && not (page_erased nand slot (s.count / 16)))
      → ground 11 (not free) 0 ≡ later_ground w slots load p
  unfolding append_unerased
  put_unerased slot free h e f =
      rw (later, h, room, f, e) (ap (λ b. ground 11 b 0) (sym (not_twice (fills_page s && not (page_erased nand (slot_of s.current slots) (s.count / 16))))))

-- ---- after a close

-- a part of an erased chip is 255
ones_part : (n at m : ℕ) → at + m ≤ n → all_ones (part (repeated n 255) at m) ≡ true
ones_part n at m h = rw (part_repeated n 255 at m h, ones_repeated m)

module _ (nand nor : List ℕ) (s : State) (slots : ℕ) (load : ℤ) (size : length nor ≡ 6144) where
  abbrev v : World
  v = world nand nor s

  -- NOR bytes due for writing
  clear_closed : nor_clear (close_world v slots) load no_room ≡ true
  unfolding nor_clear close_world moved_on all_clear writes_of bucket_start
  clear_closed =
      rw (size, ones_part 6144 0 0 (omega arith), ones_part 6144 0 8 (omega arith), ones_part 6144 24 6 (omega arith))

  damage_closed : append_damage (close_world v slots) slots load no_room ≡ false
  unfolding append_damage close_world
  damage_closed =
      no_drop (drops_first (close_world v slots).state slots) (nor_clear (close_world v slots) load no_room) ∙ ap not clear_closed

  later_closed : later_ground v slots load no_room ≡ ground 11 (append_unerased v (close_world v slots) slots no_room) 0
  unfolding later_ground room_world
  later_closed = rw damage_closed

  pub close_blocked : (slot : ℕ) (erased : Bool) → slot ≡ slot_of s.current slots
      → erased ≡ close_erased nand slot s.count s.buckets → ground 11 (not erased) 0 ≡ later_ground v slots load no_room
  unfolding append_unerased close_world moved_on
  close_blocked slot erased e f =
      let g : close_erased nand (slot_of s.current slots) s.count s.buckets ≡ erased = rw (← e) (sym f) in
      sym (later_closed ∙ ap (λ b. ground 11 b 0) (or_false (not
      (close_erased nand (slot_of s.current slots) s.count s.buckets)) ∙ ap not g))
