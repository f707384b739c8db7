-- `whole_log::closed_in` meets its contract: two numbers of the header page.
use mathlib.Core.Path.{◌≡◌, ap, ◌∙◌}
use lib.ListN.{length}
use Rattle.codec.proofs.Areas.{length_part}
use Rattle.whole_log.proofs.Segments.{closed_made}
use native.Mathlib.Omega.{arith}
use Rattle.whole_log.proofs.closed_in.Goals as goal

pub count_in-requires : goal.count_in-requires
count_in-requires c =
    let page : length c.pages_of-h.result.now ≡ 512 = ap length c.pages_of-h.ensures ∙ length_part _ _ 512 (omega (arith, c.requires)) in
    page

pub buckets_in-requires : goal.buckets_in-requires
buckets_in-requires c =
    let page : length c.pages_of-h.result.now ≡ 512 = ap length c.pages_of-h.ensures ∙ length_part _ _ 512 (omega (arith, c.requires)) in
    page

pub returns : goal.returns
returns c = closed_made _ _ _ c.pages_of-h.ensures _ _ c.count_in.ensures c.buckets_in.ensures
