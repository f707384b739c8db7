-- `walk::loaded` meets its contract.
use mathlib.Core.Path.{◌≡◌, ap, ◌∙◌}
use lib.ListN.{length}
use Rattle.codec.proofs.Areas.{length_part}
use Rattle.walk.proofs.Places.{loaded_made}
use native.Mathlib.Omega.{arith}
use Rattle.walk.proofs.loaded.Goals as goal

pub header_good-requires : goal.header_good-requires
header_good-requires c =
    let page : length c.pages_of-page.result.now ≡ 512 = ap length c.pages_of-page.ensures ∙ length_part _ _ 512 (omega (arith, c.requires)) in
    page

pub serial_in-requires : goal.serial_in-requires
serial_in-requires c =
    let page : length c.pages_of-page.result.now ≡ 512 = ap length c.pages_of-page.ensures ∙ length_part _ _ 512 (omega (arith, c.requires)) in
    page

pub returns : goal.returns
returns c =
    let a = c.args in
    loaded_made a.nand.now a.slots a.slot a.before a.moves _ c.pages_of-page.ensures _ _
    c.header_good.ensures c.serial_in.ensures
