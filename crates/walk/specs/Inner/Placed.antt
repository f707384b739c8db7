-- The skip walk as the code keeps it: a place, whose pointers stand in the state or in a header's bytes. Assumes nothing.
use Rattle.std.specs.Prelude.{◌≡◌, true, cond, List, ℕ, zero, suc, ◌+◌, ◌*◌, ◌^◌, ◌≤◌, ◌<◌, eqb, length}
use Rattle.codec.specs.Number.{number_at}
use Rattle.flash.specs.Chip.{page_of, header_last, slot_width}
use Rattle.form.specs.declared.Form.TheVariants.{New}
use Rattle.skiplist.specs.declared.Pointer.{Pointer}
use Rattle.skiplist.specs.Skip.{Live}
use Rattle.skiplist.specs.PointerBytes.{pointers_at}
use Rattle.header.specs.Header.{pointers_from, header_good}
use Rattle.visit.specs.Inner.Sound.{InSlots}
use Rattle.walk.specs.declared.Place.{Place}
use Rattle.walk.specs.Seek.{SkipWalk, hops}

-- the pointers where it stands
abbrev pub pointers_of : List ℕ → List Pointer → Place → List Pointer
pointers_of nand heads w = cond (eqb w.moves 0) heads (pointers_at New (page_of nand w.slot header_last) pointers_from)

-- the header in a slot, loaded
abbrev pub loaded_at : List ℕ → ℕ → ℕ → ℕ → ℕ → Place
loaded_at nand slots slot before moves =
    record {
      good = header_good New (page_of nand slot header_last) slots before;
      slot = slot;
      before = number_at (page_of nand slot header_last) 0 4;
      moves = moves;
    }

-- the walk of the definition, at a level; damage has ended it
abbrev pub walk_at : List ℕ → List Pointer → ℕ → Place → SkipWalk
walk_at nand heads level w =
    record { good = w.good; level = cond w.good level 0; before = w.before; pointers = pointers_of nand heads w; moves = w.moves }

-- hops that are left: none at the end of the walk, else serial and level
abbrev pub hops_at : ℕ → ℕ → ℕ
hops_at zero before = 0
hops_at (suc k) before = before + suc k

abbrev pub hops_left : SkipWalk → ℕ
hops_left w = hops_at w.level w.before

-- where they lead
abbrev pub walked_on : List ℕ → ℕ → Live → ℕ → SkipWalk → SkipWalk
walked_on nand slots live t2 w = hops (hops_left w) nand slots live t2 w

-- a header that was loaded lies in the chip; a walk without damage has its pointers in the slots, and no more moves than serials behind it
abbrev pub Inside : List ℕ → Place → Type 0
Inside nand w = (w.moves ≡ 0 → ⊥) → w.slot * slot_width + slot_width ≤ length nand

pub record PlaceSound (nand : List ℕ) (slots : ℕ) (heads : List Pointer) (w : Place) : Type 0 where
  pub inside : Inside nand w
  pub pointed : w.good ≡ true → InSlots slots (pointers_of nand heads w)
  pub few : w.good ≡ true → w.moves + w.before < 2 ^ 32
