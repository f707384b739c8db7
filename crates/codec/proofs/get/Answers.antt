-- `codec::get` meets its contract. Assumes nothing.
use Rattle.std.proofs.Common.{arith, ◌+◌, ◌-◌, get_or, Fits, w8}
use Rattle.codec.proofs.Loops.{get_step, get_bound, get_room, get_none}
use Rattle.codec.proofs.get.Goals as goal

byte : (c : goal.After-shared_slice_known-1) → Fits w8 (get_or c.args.s.now (c.args.at + (c.loop-i.i - 1)) 0)
byte c = c.type_inv.s (c.args.at + (c.loop-i.i - 1))

pub loop-i-init : goal.loop-i-init
loop-i-init c = get_none _ _ _

pub overflow_mul-acc : goal.overflow_mul-acc
overflow_mul-acc c = omega (arith, get_room _ _ _ c.loop-i-test.true c.loop-i.auto.i c.requires.1 c.loop-i.invariant.1)

pub overflow_add-acc-in-loop-i : goal.overflow_add-acc-in-loop-i
overflow_add-acc-in-loop-i c =
    omega (arith, byte c, get_room _ _ _ c.loop-i-test.true c.loop-i.auto.i c.requires.1 c.loop-i.invariant.1)

pub loop-i-preserved : goal.loop-i-preserved
loop-i-preserved c = (
  get_step _ _ _ _ _ c.loop-i-test.true c.loop-i.auto.i c.requires.0 c.loop-i.invariant.0,
  get_bound _ _ _ _ c.loop-i-test.true c.loop-i.auto.i c.loop-i.invariant.1 (omega (arith, byte c)),
)
