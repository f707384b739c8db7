-- `loads::loads_at` meets its contract: in each turn one load more is read.
use Rattle.std.proofs.Common.{◌≡◌, sym, ◌∙◌, length, arith}
use lib.IntN.{pos}
use lib.ListN.{length-set}
use Rattle.bounds.proofs.Tests.{filled_more, filled_all}
use Rattle.loads.specs.Signed.{loads_at}
use Rattle.loads.proofs.Signs.{read_back}
use Rattle.loads.proofs.Loads.{length_loads_at, load_among}
use Rattle.loads.proofs.loads_at.Goals as goal

pub loop-i-preserved : goal.loop-i-preserved
loop-i-preserved c =
    let a = c.args in
    let i = c.loop-i.i in
    let all = loads_at a.b.now a.at 13 in
    let same : length c.loop-i.x-items ≡ length all = c.loop-i.invariant.0 ∙ sym (length_loads_at a.b.now a.at 13) in
    let value = read_back _ _ c.load_at.type_inv c.load_at.ensures in (
      simp length-set c.loop-i.invariant.0,
      filled_more c.loop-i.x-items all i _ (pos 0) (omega (arith, c.loop-i.invariant.0)) same
          (value ∙ sym (load_among a.b.now a.at 13 i (pos 0) (omega arith))) c.loop-i.invariant.1,
    )

pub returns : goal.returns
returns c =
    let i : c.loop-i.i ≡ 13 = omega (arith, c.loop-i.invariant.0) in
    filled_all _ _ 13 c.loop-i.invariant.0 (length_loads_at c.args.b.now c.args.at 13) (rw i at c.loop-i.invariant.1)
