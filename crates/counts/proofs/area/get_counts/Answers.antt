-- `counts::area::get_counts` meets its contract: in each turn one count more is read.
use mathlib.Core.Path.{◌≡◌, sym, ◌∙◌}
use lib.ListN.{length, length-set}
use Rattle.bounds.proofs.Tests.{filled_more, filled_all}
use Rattle.counts.specs.CountsBytes.{counts_in}
use Rattle.counts.proofs.InArea.{length_in, count_in_lem}
use native.Mathlib.Omega.{arith}
use Rattle.counts.proofs.area.get_counts.Goals as goal

pub loop-i-preserved : goal.loop-i-preserved
loop-i-preserved c =
    let b = c.args.b.now in
    let i = c.loop-i.i in
    let same : length c.loop-i.n-items ≡ length (counts_in b) = c.loop-i.invariant.0 ∙ sym (length_in b) in (
      simp length-set c.loop-i.invariant.0,
      filled_more c.loop-i.n-items (counts_in b) i _ 0 (omega (arith, c.loop-i.invariant.0)) same
          (c.get_u32.ensures ∙ sym (count_in_lem b i (omega arith))) c.loop-i.invariant.1,
    )

pub returns : goal.returns
returns c =
    let b = c.args.b.now in
    let i : c.loop-i.i ≡ 22 = omega (arith, c.loop-i.invariant.0) in
    filled_all _ _ 22 c.loop-i.invariant.0 (length_in b) (rw i at c.loop-i.invariant.1)
