-- What a conversion looks for in the retained segments (document 02, W-203): a header of the other form, damage, and going back times
-- that do not rise and pointers that form 0 would take as live. Assumes nothing.
use Rattle.std.specs.Prelude.{Bool, true, false, not, ◌&&◌, ◌||◌, List, [], ◌∷◌, ◌++◌, ℕ, zero, suc, ◌+◌, ◌-◌, eqb, leb, ltb}
use Rattle.codec.specs.Number.{number_at}
use Rattle.flash.specs.Chip.{slot_of, pages_of, tree_first}
use Rattle.lift.specs.Rows.{time_in, lifts_most, in_full_pages}
use Rattle.bloom.specs.Pages.{each}
use Rattle.form.specs.declared.Form.{Form}
use Rattle.form.specs.declared.Form.TheVariants.{New}
use Rattle.form.specs.Forms.{byte_ten}
use Rattle.skiplist.specs.declared.Pointer.{Pointer}
use Rattle.skiplist.specs.Skip.{serials_from, is_none, is_live}
use Rattle.skiplist.specs.PointerBytes.{pointers_at}
use Rattle.header.specs.Header.{header_good, pointers_from}
use Rattle.store.specs.World.{World}
use Rattle.carry.specs.Carried.{header_of}

-- ---- headers

-- whether one of the m serials from n on has it, "newest first"
unfoldable pub any_from : (ℕ → Bool) → ℕ → ℕ → Bool
any_from has zero n = false
any_from has (suc m) n = has (n + m) || any_from has m n

-- whether a retained closed segment's header has it; `has` is given serial and header page
abbrev pub any_closed : (ℕ → List ℕ → Bool) → World → ℕ → Bool
any_closed has w slots =
    any_from (λ n. has n (header_of w.nand slots n)) (w.state.current - w.state.oldest) w.state.oldest

-- "13: a retained closed segment's header has the other form's byte 10"
abbrev pub is_form : Form → ℕ → List ℕ → Bool
is_form f n h = eqb (number_at h 10 1) (byte_ten f)

-- damage: byte 10 of neither form, "a serial out of place", or what a search of that form takes as damage; `before` is the open serial
abbrev pub is_damaged : Form → ℕ → ℕ → ℕ → List ℕ → Bool
is_damaged f slots before n h =
    not (eqb (number_at h 10 1) (byte_ten f) && (header_good f h slots before && eqb (number_at h 0 4) n))

-- ---- lift times

-- the times of a segment's lifts; those before place `first` stand in `lifts`, the others in `tail`
abbrev pub segment_times : List ℕ → List ℕ → ℕ → ℕ → List ℕ
segment_times lifts tail first count = each (time_in lifts tail first) 0 count

-- of a closed segment, as many as its header counts, all of them in its pages 0 to 19
abbrev pub closed_times : List ℕ → ℕ → ℕ → List ℕ
closed_times nand slots n =
    segment_times (pages_of nand (slot_of n slots) 0 tree_first) (pages_of nand (slot_of n slots) 0 tree_first) lifts_most (number_at (header_of nand slots n) 4 2)

-- of m closed segments from serial n on
unfoldable pub times_from : List ℕ → ℕ → ℕ → ℕ → List ℕ
times_from nand slots zero n = []
times_from nand slots (suc m) n = closed_times nand slots n ++ times_from nand slots m (suc n)

-- of the open segment: its full pages are in NAND, the rest in the page buffer
abbrev pub open_times : World → ℕ → List ℕ
open_times w slots =
    segment_times (pages_of w.nand (slot_of w.state.current slots) 0 tree_first) w.state.page (in_full_pages w.state.count) w.state.count

-- "all retained lift times", in order of arrival
abbrev pub retained_times : World → ℕ → List ℕ
retained_times w slots = times_from w.nand slots (w.state.current - w.state.oldest) w.state.oldest ++ open_times w slots

-- each is later than the one before it
unfoldable pub rises_from : ℕ → List ℕ → Bool
rises_from t [] = true
rises_from t (u ∷ us) = ltb t u && rises_from u us

unfoldable pub rises : List ℕ → Bool
rises [] = true
rises (t ∷ ts) = rises_from t ts

-- ---- pointers that form 0 would take as live

-- "a pointer neither none nor live is no earlier than the oldest live time"
abbrev pub is_late : ℕ → ℕ → Pointer → Bool
is_late oldest first p = not (is_none p) && (not (is_live p (serials_from oldest)) && leb first p.time)

unfoldable pub any_late : ℕ → ℕ → List Pointer → Bool
any_late oldest first [] = false
any_late oldest first (p ∷ ps) = is_late oldest first p || any_late oldest first ps

-- in the header of serial n
abbrev pub has_late : ℕ → ℕ → ℕ → List ℕ → Bool
has_late oldest first n h = any_late oldest first (pointers_at New h pointers_from)
