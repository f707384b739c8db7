use Rattle.store.specs.World.{closing}
use mathlib.Core.Path.{ap}
use Rattle.header.specs.declared.Closing.{Closing}
use Rattle.store.proofs.Grounds.{standing}
use native.Mathlib.Omega.{arith}
use Rattle.store.proofs.State.closed.Goals as goal
-- `closed`: the pages are programmed, NOR is erased, the next serial opens.
use Rattle.store.proofs.Steps.{closed_made}

pub slot_of-slot-requires : goal.slot_of-slot-requires
slot_of-slot-requires c =
    let st = standing _ _ _ _ c.requires.0 in
    (omega (arith, st.serials.first, st.serials.rising), omega (arith, st.chips.least))

pub closing-c-requires : goal.closing-c-requires
closing-c-requires c =
    let st = standing _ _ _ _ c.requires.0 in
    (st.span.low_ok, st.span.high_ok)

pub program_pages-requires : goal.program_pages-requires
unfolding closing
program_pages-requires c =
    let st = standing _ _ _ _ c.requires.0 in
    let e = c.closing-c.ensures in
    let h = c.slot_of-slot.ensures.1 in
    let n = st.chips.nand_size in (
      omega arith,
      st.chips.nor_size,
      rw (ap (λ (t : Closing). t.count) e) c.requires.1,
      rw (ap (λ (t : Closing). t.count) e) st.counts.lifts,
      rw (ap (λ (t : Closing). t.buckets) e) st.counts.few,
    )

pub moved_on-requires : goal.moved_on-requires
moved_on-requires c =
    let st = standing _ _ _ _ c.requires.0 in
    (omega (arith, st.chips.most), omega (arith, st.serials.last))

pub returns : goal.returns
returns c =
    closed_made _ _ _ _ _ _ _ _ _ c.slot_of-slot.ensures.0 c.closing-c.ensures c.program_pages.ensures
    c.erase_chip.ensures
    c.moved_on.ensures
