-- `multiple_below`: a multiple of m that is not above n − 1 fits.
use Prim.Native.Nat.{◌-◌}
use Rattle.carry.proofs.Carrying.{multiple_most}
use native.Mathlib.Omega.{arith}
use Rattle.carry.proofs.multiple_below.Goals as goal

pub overflow_mul-result : goal.overflow_mul-result
overflow_mul-result c =
    omega (arith, multiple_most (c.args.n - 1) c.args.m)
