-- `recorded`: the record into the page buffer, a full page to NAND.
use Rattle.store.proofs.Putting.{recorded_nand, recorded_page}
use Rattle.store.proofs.State.recorded.Goals as goal

pub returns : goal.returns
returns c =
    let e = c.slot_of-slot.ensures.0 in
    let f = c.with_record-full.ensures in
    record { nand = λ load k. recorded_nand c.args.self c.args.time c.args.code load _ k c.args.nand.now _ _ _ _ e f c.page_after.ensures.nand; page = λ load k. recorded_page c.args.self c.args.time c.args.code load _ k _ _ f c.page_after.ensures.page }
