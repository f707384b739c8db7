-- `rise_in`: what is left from place p on gives what the whole gives.
use Rattle.std.proofs.Common.{◌∙◌}
use Rattle.retained.proofs.Rising.{lift_more, lift_end}
use Rattle.retained.proofs.times.rise_in.Goals as goal

pub loop-p-preserved : goal.loop-p-preserved
loop-p-preserved c = lift_more _ _ _ _ _ _ c.loop-p-test.true c.time_in.ensures c.rise_with-q.ensures ∙ c.loop-p.invariant

pub returns : goal.returns
returns c = lift_end _ _ _ _ c.loop-p-test.false ∙ c.loop-p.invariant
