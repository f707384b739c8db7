-- `split::mid_of` meets its contract: its numbers stand 2,949,999 above the stored ones.
use Prim.Native.Nat.{◌-◌}
use Rattle.split.proofs.Midpoint.{Midway, midpoint_work}
use native.Mathlib.Omega.{arith}
use Rattle.split.proofs.mid_of.Goals as goal

-- where `mid` has returned
found : (c : goal.After-mid-m)
    → Midway c.args.x c.args.y c.args.loads (c.mid-m.result - 2949999)
found c =
    midpoint_work _ _ _ _ c.mid-m.result c.args.loads c.requires.x_lt_y.0 c.predict-l.ensures c.mid-m.ensures

pub overflow_sub-result : goal.overflow_sub-result
overflow_sub-result c = omega (arith, found c)

pub overflow_cast-result : goal.overflow_cast-result
overflow_cast-result c = omega (arith, found c)

pub returns : goal.returns
returns c =
    let both = found c in
    record { is = both.0; within = both.1 }
