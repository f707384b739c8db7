-- `rise_closed`: as many lifts as the header counts, all of them in pages 0 to 19.
use Rattle.std.proofs.Common.{ap, ◌∙◌, arith, length, ◌≤◌}
use Rattle.codec.proofs.Areas.{length_part}
use Rattle.retained.proofs.Rising.{closed_read}
use Rattle.retained.proofs.times.rise_closed.Goals as goal

pub rise_in-requires : goal.rise_in-requires
rise_in-requires c =
    let l = ap length c.pages_of-lifts.ensures ∙ length_part c.args.nand.now _ 10240 (omega (arith, c.slot_of-slot.ensures.1, c.requires)) in
    let count : c.count_in-count.result ≤ 320 = rw (c.count_in-count.ensures, c.header_at.ensures.0) c.requires.3 in
    (l, omega arith, count, omega arith)

pub returns : goal.returns
returns c =
    closed_read _ _ _ _ _ _ _ _ _ c.header_at.ensures.0 c.count_in-count.ensures c.slot_of-slot.ensures.0 c.pages_of-lifts.ensures
    c.rise_in.ensures
