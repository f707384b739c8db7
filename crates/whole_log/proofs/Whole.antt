-- All segments of a log: damage, or the open one in hand with the closed ones left. Assumes nothing.
use mathlib.Core.Path.{◌≡◌, sym, ap, ◌∙◌}
use mathlib.Core.Bool.{Bool, true, false, ◌&&◌}
use mathlib.Core.Option.{Option, none, some}
use mathlib.Core.List.{List, append-nil}
use Prim.Native.Nat.{ℕ}
use native.Mathlib.Omega.{arith}
use lib.ListN.{length, get_or}
use Rattle.bitset.specs.declared.Bits.{Bits}
use Rattle.flash.specs.Chip.{slot_of}
use Rattle.skiplist.specs.Skip.{Live, serials_from}
use Rattle.visit.specs.declared.Log.{Log}
use Rattle.visit.specs.declared.Query.{Query}
use Rattle.visit.specs.Inner.Sound.{LogSound}
use Rattle.walk.specs.declared.Cursor.{Cursor}
use Rattle.walk.specs.Seek.{start_of}
use Rattle.walk.specs.Inner.Sound.{Begun}
use Rattle.found.specs.Found.{join_rows, found_rows}
use Rattle.found.proofs.All.{all_is, all_none, begun_at, found_is}
use Rattle.whole_log.specs.Inner.Held.{set_in, open_sweep, Room, Held}
use Rattle.whole_log.specs.Inner.Turns.{after, Puts, Goes}
use Rattle.whole_log.proofs.Segments.{open_segment, found_open, rows_open}
use Rattle.whole_log.proofs.Turns.{rows_last, slot_put, set_put}

module _ (nand nor page : List ℕ) (g : Log) (q : Query) (sound : LogSound nand nor g) (c : Cursor)
    (c_is : c ≡ start_of nand g (serials_from g.oldest) q) where
  abbrev live : Live
  live = serials_from g.oldest

  abbrev all : Option (List (List ℕ))
  all = found_rows nand nor page g live q

  pub begun : Begun g c
  begun = begun_at nand g live q c sound.heads_in c_is

  -- damage on the way to the closed segments, or in the open one
  pub all_spoilt : (good : Bool) → (good ≡ false → (open_sweep nand nor page g q).good ≡ false) → (c.good && good) ≡ false → all ≡ none
  all_spoilt good spoilt e =
      sym (found_is nand nor page g live q c c_is)
      ∙ all_none nand nor page g live q c good (λ h. (open_segment nand nor page g q).damage (spoilt h)) e

  module _ (size : length page ≡ 512) (way : List ℕ) (sets : List Bits) (room : Room g way sets) (new_way : List ℕ) (new_sets : List Bits)
      (puts : Puts (open_sweep nand nor page g q) g.slots (slot_of g.current g.slots) way sets new_way new_sets) where
    slot_is : get_or new_way g.slots 0 ≡ slot_of g.current g.slots
    slot_is = slot_put g way sets room g.slots (omega arith) _ (open_sweep nand nor page g q) new_way new_sets puts

    set_is : set_in new_sets g.slots ≡ (open_sweep nand nor page g q).set.words
    set_is = set_put g way sets room g.slots (omega arith) _ (open_sweep nand nor page g q) new_way new_sets puts

    held_open : Held nand nor page g q new_way new_sets g.slots
    held_open =
        record {
          low_most = omega arith;
          each = λ i a b.
              let same : i ≡ g.slots = omega arith in
              rw same (found_open nand nor page g q sound size new_way new_sets slot_is set_is);
        }

    pub gathered_open : c.good ≡ true → Goes nand nor page g q all new_way new_sets c g.slots
    gathered_open e =
        record {
          held = held_open;
          rows =
              sym (found_is nand nor page g live q c c_is)
              ∙ all_is nand nor page g live q c sound.nand_size begun e
              ∙ ap (join_rows (after nand g q c)) (rows_open nand nor page g q sound size new_way new_sets slot_is set_is puts.good
              ∙ ap some (sym (rows_last nand page g new_way new_sets ∙ append-nil _)));
        }
