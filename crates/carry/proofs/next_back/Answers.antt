-- `next_back`: one on, but for a store that has had no lift.
use mathlib.Core.Path.{sym, ap}
use mathlib.Core.Bool.{cond}
use Prim.Native.Nat.{◌+◌}
use Rattle.carry.proofs.next_back.Goals as goal

pub returns-then-new : goal.returns-then-new
returns-then-new c =
    sym (ap (λ b. cond b 0 (c.args.next + 1)) c.if-new.true)

pub returns-else-new : goal.returns-else-new
returns-else-new c =
    sym (ap (λ b. cond b 0 (c.args.next + 1)) c.if-new.false)
