-- `tree::start_of` meets its contract: the bytes of whole pages before the bucket, and its offset.
use mathlib.Core.Path.{◌≡◌, ap}
use native.Mathlib.Omega.{arith}
use Rattle.tree.specs.Place.{bucket_page, bucket_offset, bucket_start}
use Rattle.tree.specs.declared.Place.{Place}
use Rattle.tree.proofs.start_of.Goals as goal

pub page_start-requires : goal.page_start-requires
page_start-requires c =
    let page : c.place_of-p.result.page.0 ≡ bucket_page c.args.b.0 = ap (λ (p : Place). p.page.0) c.place_of-p.ensures in
    (omega (arith, page), omega (arith, page))

pub overflow_add-result : goal.overflow_add-result
overflow_add-result c =
    let page : c.place_of-p.result.page.0 ≡ bucket_page c.args.b.0 = ap (λ (p : Place). p.page.0) c.place_of-p.ensures in
    let offset : c.place_of-p.result.offset ≡ bucket_offset c.args.b.0 = ap (λ (p : Place). p.offset) c.place_of-p.ensures in
    omega (arith, page, offset, c.page_start.ensures)

pub returns : goal.returns
unfolding bucket_start
returns c =
    let page : c.place_of-p.result.page.0 ≡ bucket_page c.args.b.0 = ap (λ (p : Place). p.page.0) c.place_of-p.ensures in
    let offset : c.place_of-p.result.offset ≡ bucket_offset c.args.b.0 = ap (λ (p : Place). p.offset) c.place_of-p.ensures in
    omega (arith, page, offset, c.page_start.ensures)
