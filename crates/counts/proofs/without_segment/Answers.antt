-- `counts::without_segment` meets its contract: a damaged header, or the lifts that it counts.
use mathlib.Core.Path.{ap, ◌∙◌}
use lib.ListN.{length}
use Rattle.codec.proofs.Areas.{length_part}
use Rattle.counts.proofs.Downs.{few_lifts, spoilt_header, sound_header}
use native.Mathlib.Omega.{arith}
use Rattle.counts.proofs.without_segment.Goals as goal

pub header_good-requires : goal.header_good-requires
header_good-requires c = ap length c.pages_of-h.ensures ∙ length_part _ _ 512 (omega (arith, c.requires))

pub count_in-requires : goal.count_in-requires
count_in-requires c = ap length c.pages_of-h.ensures ∙ length_part _ _ 512 (omega (arith, c.requires))

pub lifts_less-requires : goal.lifts_less-requires
lifts_less-requires c =
    let l = ap length c.pages_of-lifts.ensures ∙ length_part c.args.nand.now _ 10240 (omega (arith, c.requires)) in
    let f = few_lifts c.args.slots c.args.before _ _ c.header_good.ensures c.if-header_good.true _ c.count_in.ensures in
    (omega arith, omega arith)

pub returns-then-header_good : goal.returns-then-header_good
returns-then-header_good c =
    let a = c.args in
    c.lifts_less.ensures
    ∙ sound_header a.nand.now a.slots a.slot a.before a.counts _ c.pages_of-h.ensures _ c.header_good.ensures c.if-header_good.true
    _ c.pages_of-lifts.ensures _ c.count_in.ensures

pub returns-else-header_good : goal.returns-else-header_good
returns-else-header_good c =
    let a = c.args in
    spoilt_header a.nand.now a.slots a.slot a.before a.counts _ c.pages_of-h.ensures _ c.header_good.ensures c.if-header_good.false
