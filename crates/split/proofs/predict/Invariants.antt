-- `split::predict` meets its contract. The invariant: what is summed and what is left make the whole sums.
use mathlib.Core.Path.{◌≡◌}
use Prim.Native.Nat.{◌+◌, ◌*◌, ◌≤◌}
use lib.ListN.{drop}
use Rattle.split.proofs.Prediction.{total, moment}
use Rattle.split.proofs.predict.Given as goal

abbrev pub invariant-loop-i : goal.invariant-loop-i
invariant-loop-i l =
    record {
      small_a : l.a ≤ l.i * 150001;
      small_w : l.w ≤ l.i * 1800012;
      sum : l.a + total (drop l.i l.fn.loads) ≡ total l.fn.loads;
      moments : l.w + moment l.i (drop l.i l.fn.loads) ≡ moment 0 l.fn.loads;
    }
