-- `rise_all`: what is left from serial n on gives what the whole gives.
use Rattle.std.proofs.Common.{◌∙◌}
use Rattle.retained.proofs.Rising.{segment_more, segment_end}
use Rattle.retained.proofs.times.rise_all.Goals as goal

pub loop-n-preserved : goal.loop-n-preserved
loop-n-preserved c = segment_more _ _ _ _ _ _ c.loop-n-test.true c.rise_closed-q.ensures ∙ c.loop-n.invariant

pub returns : goal.returns
returns c = segment_end _ _ _ _ _ c.loop-n-test.false ∙ c.loop-n.invariant
