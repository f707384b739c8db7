-- `in_place::flush_page` meets its contract: a page goes out with its sixteenth lift.
use mathlib.Core.Path.{refl, ap₂, ◌∙◌}
use Prim.Native.Nat.{◌+◌, ◌≤◌}
use lib.ListN.{length}
use Rattle.codec.specs.Area.{splice}
use Rattle.codec.proofs.Areas.{part_from}
use Rattle.append_parts.proofs.Choices.{chosen, passed}
use native.Mathlib.Omega.{arith}
use Rattle.in_place.proofs.flush_page.Goals as goal

-- the page lies in the chip
page-room : (c : goal.After-copy_long-arg-2-1) → c.page_at-to.result + 512 ≤ length c.args.nand.now
page-room c = omega (arith, c.page_at-to.ensures, c.requires)

pub returns-then-n-ne-LAST_IN_PAGE : goal.returns-then-n-ne-LAST_IN_PAGE
returns-then-n-ne-LAST_IN_PAGE c = record { area = passed _ _ _ _ c.if-n-ne-LAST_IN_PAGE.true; nand = passed _ _ _ _ c.if-n-ne-LAST_IN_PAGE.true }

pub copy_long-requires : goal.copy_long-requires
copy_long-requires c = omega (arith, page-room c)

pub returns : goal.returns
returns c =
    let a = c.args in
    let full = c.if-n-ne-LAST_IN_PAGE.false in
    record {
      area = chosen _ _ _ _ _ full c.fill.ensures;
      nand = chosen _ _ _ _ _ full (c.copy_long.ensures
          ∙ ap₂ (splice a.nand.now) c.page_at-to.ensures (part_from a.b.now 127 639 512 refl));
    }
