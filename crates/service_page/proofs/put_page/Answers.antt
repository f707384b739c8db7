-- `service_page::put_page` meets its contract: heading, plates and total one after another.
use Rattle.std.proofs.Common.{◌≡◌, sym, ◌∙◌, length, arith, rules}
use Rattle.plate.specs.Total.{total}
use Rattle.service_page.proofs.PageWritten.{total_sum, page_written}
use Rattle.service_page.proofs.put_page.Goals as goal

pub total_of-all-requires : goal.total_of-all-requires
total_of-all-requires c = omega (arith, total_sum c.args.counts)

pub put_plates-requires : goal.put_plates-requires
put_plates-requires c =
    let e : c.total_of-all.result ≡ total c.args.counts = c.total_of-all.ensures ∙ sym (total_sum c.args.counts) in
    (omega arith, (e, c.requires.1))

pub returns : goal.returns
returns c =
    let counts_long : length c.args.counts ≡ 22 = search rules in
    rw (c.put_total.ensures, c.put_plates.ensures, c.put_heading.ensures, c.total_of-all.ensures, ← total_sum)
    (page_written _ _ _ _ c.args.counts counts_long c.requires.0)
