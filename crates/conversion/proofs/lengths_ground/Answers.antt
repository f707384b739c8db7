-- `lengths_ground`: ground 1 of both stores, then ground 2.
use mathlib.Core.Path.{ap₂, ◌∙◌}
use Rattle.bounds.specs.Grounds.{sooner}
use Rattle.conversion.proofs.Judged.{both_lengths}
use Rattle.conversion.proofs.lengths_ground.Goals as goal

pub returns : goal.returns
returns c = c.sooner.ensures ∙ ap₂ sooner c.chips_ground.ensures c.chips_ground-2.ensures ∙ both_lengths _ _ _ _ _
