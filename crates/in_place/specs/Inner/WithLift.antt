-- The state and the chips after a lift written straight into the area. Assumes nothing.
use Rattle.std.specs.Prelude.{cond, List, ℕ, ◌*◌, ◌/◌, ◌%◌, ℤ}
use Rattle.codec.specs.Area.{splice}
use Rattle.flash.specs.Chip.{programmed, erased_page}
use Rattle.lift.specs.Record.{record_bytes, record_width}
use Rattle.lift.specs.Rows.{lifts_per_page}
use Rattle.bloom.specs.Bloom.{noted, empty_section}
use Rattle.store.specs.declared.State.{State}
use Rattle.store.specs.World.{state_given, fills_page, fills_section, section_start}

-- the page buffer with the lift's record, its load as stored
abbrev pub page_after : State → ℕ → ℕ → List ℕ → List ℕ
page_after s time code note = splice s.page (s.count % lifts_per_page * record_width) (record_bytes time code note)

-- a state with the lift, its bucket count given
unfoldable pub with_lift : State → ℕ → ℕ → ℤ → List ℕ → ℕ → State
with_lift s time code load note buckets =
    state_given s time load time buckets (cond (fills_page s) erased_page (page_after s time code note))
    (cond (fills_section s) empty_section (noted s.bloom code))

-- NAND with its page, and NOR with its section, where it fills them
unfoldable pub nand_after : List ℕ → ℕ → State → ℕ → ℕ → List ℕ → List ℕ
nand_after nand slot s time code note =
    cond (fills_page s) (programmed nand slot (s.count / lifts_per_page) (page_after s time code note)) nand

unfoldable pub nor_after : List ℕ → State → ℕ → List ℕ
nor_after nor s code = cond (fills_section s) (splice nor (section_start s) (noted s.bloom code)) nor
