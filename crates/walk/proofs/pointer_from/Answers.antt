-- `walk::pointer_from` meets its contract: a head, or a pointer of the header where the walk stands.
use mathlib.Core.Path.{ap, ◌∙◌}
use lib.ListN.{length}
use Rattle.codec.proofs.Areas.{length_part}
use Rattle.walk.proofs.Places.{pointer_head, pointer_there}
use native.Mathlib.Omega.{arith}
use Rattle.walk.proofs.pointer_from.Goals as goal

pub returns-then-w-eq0 : goal.returns-then-w-eq0
returns-then-w-eq0 c =
    let a = c.args in
    pointer_head a.nand.now a.heads a.w a.k _ c.if-w-eq0.true c.pointer_of.ensures

pub pages_of-page-requires : goal.pages_of-page-requires
pages_of-page-requires c = (c.requires.0 c.if-w-eq0.false, omega arith, omega arith)

pub pointer_in-requires : goal.pointer_in-requires
pointer_in-requires c = (
  ap length c.pages_of-page.ensures ∙ length_part _ _ 512 (omega (arith, c.requires.0 c.if-w-eq0.false)),
  c.requires.1,
)

pub returns : goal.returns
returns c =
    let a = c.args in
    pointer_there a.nand.now a.heads a.w a.k _ c.if-w-eq0.false _ c.pages_of-page.ensures
    c.pointer_in.ensures
