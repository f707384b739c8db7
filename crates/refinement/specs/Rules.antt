-- What a call may do to the chips (README, demand 3): a page of NAND that changes was erased before, or lies in the slot of a serial that goes
-- in this call ("the slot of a serial that goes is erased in that call, no other"); NOR only turns ones to zeros ("between erasures a write may
-- only clear bits"), unless the call closed a segment. And how many header pages a search may load (document 02, W-207). Assumes nothing.
use Rattle.std.specs.Prelude.{◌≡◌, true, List, [], ◌∷◌, ◌⊎◌, ℕ, ◌+◌, ◌/◌, ◌<◌}
use Rattle.flash.specs.Chip.{slot_of, page_of, page_erased, slot_pages}
use Rattle.flash.specs.Clears.{OnlyClears}
use Rattle.store.specs.World.{World}
use Rattle.paper_log.specs.Log.{Log, open_serial}
use Rattle.paper_log.specs.Calls as Paper
use Rattle.refinement.specs.Run.{Request, call_of, world_after}

-- page p of slot s is as it was, or was erased before, or its slot is one that may be erased
abbrev pub PageKept : List ℕ → List ℕ → (ℕ → Type 0) → ℕ → ℕ → Type 0
PageKept before after erases s p = (page_of after s p ≡ page_of before s p) ⊎ ((page_erased before s p ≡ true) ⊎ erases s)

-- every page of a chip of S slots
abbrev pub PagesKept : ℕ → List ℕ → List ℕ → (ℕ → Type 0) → Type 0
PagesKept slots before after erases = (s p : ℕ) → s < slots → p < slot_pages → PageKept before after erases s p

-- one call, by the worlds and the paper logs before and after it: the slot of the serial that goes may be erased; a call that closed a segment
-- moved the open serial on by one
pub record Kept (before after : World) (log next : Log) : Type 0 where
  pub pages : PagesKept log.slots before.nand after.nand (λ s. (next.oldest ≡ log.oldest + 1) × (s ≡ slot_of log.oldest log.slots))
  pub nor : OnlyClears before.nor after.nor ⊎ (open_serial next ≡ open_serial log + 1)

-- every call of a list
abbrev pub AllKept : World → Log → List Request → Type 0
AllKept w g [] = Unit {0}
AllKept w g (r ∷ rs) = Kept w (world_after w r) g (Paper.stepped g (call_of r)) × AllKept (world_after w r) (Paper.stepped g (call_of r)) rs

-- header pages of a search: "It is at most S/8 rounded up, plus 3, in any store reached from a format."
abbrev pub header_pages_most : ℕ → ℕ
header_pages_most slots = (slots + 7) / 8 + 3
