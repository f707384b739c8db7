-- Sentences of document 01 that a definition carries in other words; store/proofs/Sentences shows that they hold. Assumes nothing.
use Rattle.std.specs.Prelude.{◌≡◌, List, ℕ, ◌+◌, ◌-◌, ◌*◌, ◌≤◌, length}
use Rattle.flash.specs.Chip.{slot_of, slot_width, nor_width}
use Rattle.bounds.specs.Grounds.{slots_least, slots_most}
use Rattle.store.specs.declared.State.{State}
use Rattle.store.specs.World.{without_oldest}

-- "The first append to n erases that slot if oldest ≤ n − S; oldest then becomes n − S + 1." The definition drops the oldest segment and
-- erases its slot; under the bounds that slot is n's own, and the next oldest serial is n − S + 1.
pub record ForcedDrop (s : State) (slots : ℕ) : Type 0 where
  pub due : s.oldest + slots ≤ s.current
  pub slot : slot_of s.oldest slots ≡ slot_of s.current slots
  pub oldest : (without_oldest s).oldest ≡ s.current - slots + 1

-- grounds 1 and 2 alone: S and the two lengths are right
pub record RightSizes (nand nor : List ℕ) (slots : ℕ) : Type 0 where
  pub least : slots_least ≤ slots
  pub most : slots ≤ slots_most
  pub nand_size : length nand ≡ slots * slot_width
  pub nor_size : length nor ≡ nor_width
