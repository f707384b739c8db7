-- `split::fit` meets its contract: A and D stand in two sums of stored loads.
use mathlib.Core.Path.{◌≡◌}
use Prim.Native.Nat.{◌+◌, ◌/◌}
use Rattle.split.proofs.Prediction.{predicts_sums}
use native.Mathlib.Omega.{arith}
use Rattle.split.proofs.fit.Goals as goal

pub returns : goal.returns
returns c =
    let up : c.div_ceil.result ≡ (c.max.result + 181) / 182 = omega (arith, c.div_ceil.ensures) in
    rw (up, c.max.ensures, c.min.ensures) (predicts_sums _ _ (omega arith) (omega arith))
