-- `whole_log::gather_one` meets its contract: damage, or the segment's slot and the set that is found in it.
use mathlib.Core.Path.{refl}
use Rattle.sweep.specs.Inner.Swept.{none_swept}
use Rattle.found.proofs.Matched.{closed_none}
use Rattle.whole_log.proofs.gather_one.Goals as goal

pub returns-in_default-clause-damage : goal.returns-in_default-clause-damage
returns-in_default-clause-damage c =
    (refl, closed_none c.args.nand.now c.args.s c.args.q none_swept c.in_default.ensures refl)
