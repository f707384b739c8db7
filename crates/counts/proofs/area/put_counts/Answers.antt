-- `counts::area::put_counts` meets its contract: in each turn one count more is written.
use mathlib.Core.Path.{◌≡◌, refl, ◌∙◌}
use Prim.Native.Nat.{◌*◌}
use lib.ListN.{length}
use Rattle.codec.specs.Number.{bytes}
use Rattle.codec.proofs.Areas.{splice_all}
use Rattle.codec.proofs.Numbers.{length_bytes}
use Rattle.loads.proofs.SideBySide.{put_none, put_next, put_all, length_side}
use Rattle.counts.specs.CountsBytes.{counts_bytes}
use native.Mathlib.Omega.{arith}
use borrow.Author.Rules.{rules}
use Rattle.counts.proofs.area.put_counts.Goals as goal

pub loop-i-init : goal.loop-i-init
loop-i-init c = put_none (bytes 4) 4 (length_bytes 4) _ 0 c.args.counts (omega arith)

pub put_u32-requires : goal.put_u32-requires
put_u32-requires c =
    omega (arith, c.loop-i.invariant.1)

pub loop-i-preserved : goal.loop-i-preserved
loop-i-preserved c =
    let n : length c.args.counts ≡ 22 = search rules in
    put_next (bytes 4) 4 (length_bytes 4) _ _ _ 0 c.args.counts c.loop-i.i (4 * c.loop-i.i) 0 _ (omega arith) (omega arith) (omega arith) c.loop-i.invariant refl
    c.put_u32.ensures

pub shape_of-b : goal.shape_of-b
shape_of-b c = omega (arith, c.loop-i.invariant.1)

pub returns : goal.returns
unfolding counts_bytes
returns c =
    let n : length c.args.counts ≡ 22 = search rules in
    put_all (bytes 4) 4 (length_bytes 4) _ _ 0 c.args.counts _ (omega arith) c.loop-i.invariant
    ∙ splice_all _ _ (length_side (bytes 4) 4 (length_bytes 4) c.args.counts ∙ omega arith)
