-- `kept::put_counts` meets its contract: in each turn one count more is written.
use mathlib.Core.Path.{◌≡◌, refl, ◌∙◌}
use Prim.Native.Nat.{◌*◌}
use lib.ListN.{length}
use Rattle.codec.specs.Number.{bytes}
use Rattle.codec.proofs.Areas.{splice_all}
use Rattle.codec.proofs.Numbers.{length_bytes}
use Rattle.loads.proofs.SideBySide.{put_none, put_next, put_all, length_side}
use native.Mathlib.Omega.{arith}
use borrow.Author.Rules.{rules}
use Rattle.kept.proofs.put_counts.Goals as goal

pub loop-i-init : goal.loop-i-init
loop-i-init c = put_none (bytes 8) 8 (length_bytes 8) _ 0 c.args.counts (omega arith)

pub put_u64-requires : goal.put_u64-requires
put_u64-requires c =
    omega (arith, c.loop-i.invariant.1)

pub loop-i-preserved : goal.loop-i-preserved
loop-i-preserved c =
    let n : length c.args.counts ≡ 22 = search rules in
    put_next (bytes 8) 8 (length_bytes 8) _ _ _ 0 c.args.counts c.loop-i.i (8 * c.loop-i.i) 0 _ (omega arith) (omega arith) (omega arith) c.loop-i.invariant refl
    c.put_u64.ensures

pub shape_of-answer : goal.shape_of-answer
shape_of-answer c = omega (arith, c.loop-i.invariant.1)

pub returns : goal.returns
returns c =
    let n : length c.args.counts ≡ 22 = search rules in
    put_all (bytes 8) 8 (length_bytes 8) _ _ 0 c.args.counts _ (omega arith) c.loop-i.invariant
    ∙ splice_all _ _ (length_side (bytes 8) 8 (length_bytes 8) c.args.counts ∙ omega arith)
