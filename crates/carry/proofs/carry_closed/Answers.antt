-- `carry_closed`: what is left to carry from serial n on gives what the whole gives.
use Rattle.std.proofs.Common.{◌∙◌}
use Rattle.carry.proofs.Carrying.{closed_more, closed_end}
use Rattle.carry.proofs.carry_closed.Goals as goal

pub loop-n-preserved : goal.loop-n-preserved
loop-n-preserved c = closed_more _ _ _ _ _ _ _ c.loop-n-test.true c.carry_slot.ensures ∙ c.loop-n.invariant

pub returns : goal.returns
returns c = closed_end _ _ _ _ _ _ c.loop-n-test.false ∙ c.loop-n.invariant
