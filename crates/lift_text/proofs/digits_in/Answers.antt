-- `lift_text::digits_in` meets its contract: by the logarithm to base ten.
use Rattle.std.proofs.Common.{arith}
use Rattle.lift_text.proofs.Lines.{digits_by_power}
use Rattle.lift_text.proofs.digits_in.Goals as goal

pub returns : goal.returns
returns c =
    let i = c.ilog10.ensures in
    let n = digits_by_power c.ilog10.result c.args.v (rw c.max.ensures at i.power_le) (rw c.max.ensures at i.next_power_gt) in
    (omega (arith, c.from.ensures), omega (arith, c.from.ensures, i.bound))
