-- `tree_page`: the buckets that there are, in front of 255.
use mathlib.Core.Path.{refl}
use native.Mathlib.Omega.{arith}
use Rattle.codec.proofs.Areas.{part_from}
use Rattle.segment.proofs.TreeRun.{tree_put}
use Rattle.segment.proofs.tree_page.Goals as goal

pub returns : goal.returns
returns c =
    let a = c.page_start-a.ensures in
    let e = c.start_of-end.ensures in
    tree_put c.args.nor.now _ _ _ _ _ _ _ _ a e (omega (arith, a, e, c.requires.2)) (omega (arith, e, c.requires.3))
    c.min-n.ensures c.ones-d.ensures (part_from _ _ _ _ refl) c.copy.ensures
