-- `codec::put` meets its contract. Assumes nothing.
use Rattle.std.proofs.Common.{◌≡◌, ◌∙◌, refl, ◌+◌, ◌-◌, ◌<◌, arith, sym}
use lib.ListN.{length-set}
use Rattle.codec.specs.Number.{bytes}
use Rattle.codec.proofs.Loops.{back, put_none, put_step}
use Rattle.codec.proofs.Areas.{part_from, length_part}
use Rattle.codec.proofs.Numbers.{length_bytes}
use Rattle.codec.proofs.put.Goals as goal

pub loop-b-init : goal.loop-b-init
loop-b-init c =
    let e = part_from c.args.s.now c.args.at _ c.args.n refl in
    let l = length_part c.args.s.now c.args.at c.args.n c.requires in
    let z : c.args.n - 0 ≡ c.args.n = omega arith in
    rw (e, z) (l, put_none _ _ (l ∙ sym (length_bytes _ _)))

pub loop-b-preserved : goal.loop-b-preserved
loop-b-preserved c =
    let left : 0 < c.args.n - c.loop-b.b-index = omega arith in
    let e : c.args.n - (c.loop-b.b-index + 1) ≡ c.args.n - c.loop-b.b-index - 1 = omega arith in
    (simp length-set c.loop-b.invariant.0, rw e (put_step _ _ _ _ left ∙ c.loop-b.invariant.1))

pub returns : goal.returns
unfolding bytes
returns c =
    let z : c.args.n - c.loop-b.b-index ≡ 0 = omega arith in
    back _ _ _ _ _ (rw z at c.loop-b.invariant.1) (length_bytes _ _)
