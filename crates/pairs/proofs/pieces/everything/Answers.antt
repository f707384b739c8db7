-- `everything`: the limits of times and loads, as stored.
use mathlib.Core.Path.{refl}
use Rattle.lift.specs.Limits.{stored}
use Rattle.pairs.proofs.pieces.everything.Goals as goal

pub returns : goal.returns
unfolding stored
returns c = refl
