-- `keeping::pieces::with_ground_3` meets its contract: the ground of the counts where it holds.
use Rattle.bounds.specs.Grounds.{sooner}
use Rattle.keeping.proofs.pieces.with_ground_3.Goals as goal

pub returns-then-broken : goal.returns-then-broken
returns-then-broken c = rw c.if-broken.true c.sooner.ensures

pub returns-else-broken : goal.returns-else-broken
unfolding sooner
returns-else-broken c = rw c.if-broken.false
