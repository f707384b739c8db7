-- `split::predict` meets its contract. The invariant: what is summed and what is left make the whole sums.
use mathlib.Core.Path.{◌≡◌, ap}
use Prim.Native.Nat.{ℕ, ◌*◌, ◌≤◌}
use lib.ListN.{length, get_or}
use Rattle.split.proofs.Prediction.{total_step, moment_step, predicts_loads}
use native.Mathlib.Nat.{mul-le-mul_left}
use native.Mathlib.Omega.{arith}
use borrow.Author.Rules.{rules}
use Rattle.split.proofs.predict.Goals as goal

pub loop-i-preserved : goal.loop-i-preserved
loop-i-preserved c =
    let i = c.loop-i.i in
    let ys = c.args.loads in
    let n : length ys ≡ 13 = search rules in
    let y : get_or ys i 0 ≤ 150001 = c.requires i c.loop-i-test.true in
    let each : i * get_or ys i 0 ≤ i * 150001 = mul-le-mul_left i y in
    let weighed = ap (λ (v : ℕ). i * v) c.from-y.ensures in
    let sum = total_step ys i (omega arith) in
    let moments = moment_step ys i (omega arith) in
    record { small_a = omega arith; small_w = omega arith; sum = omega arith; moments = omega arith }

pub returns : goal.returns
returns c =
    let v = c.loop-i.invariant in
    predicts_loads _ _ _ _ _ _ (search rules) c.loop-i-test.false v.sum v.moments c.fit.ensures
