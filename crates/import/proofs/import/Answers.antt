-- `import` meets its contract: a ground from 1 to 3, a bad header, or the lines behind it.
use mathlib.Core.Path.{sym, ◌∙◌}
use Rattle.grounds.proofs.Numbers.{refused}
use Rattle.store.specs.Inner.Pieces.{bounds_ground}
use Rattle.import.specs.Call.{import_outcome}
use Rattle.import.proofs.Folding.{text_refused, heading_bad, heading_good}
use Rattle.import.proofs.import.Goals as goal

pub returns-in-Err : goal.returns-in-Err
unfolding import_outcome bounds_ground
returns-in-Err c =
    rw c.stopped.ensures (text_refused _ _ _ _ _ _ c.in-Err.ensures (refused c.in-Err.ground))

pub returns-in_default-heading_of : goal.returns-in_default-heading_of
unfolding import_outcome bounds_ground
returns-in_default-heading_of c =
    rw c.stopped-in_default-heading_of.ensures (heading_bad _ _ _ _ _ (sym c.in_default.ensures) c.in_default-heading_of.ensures)

pub returns : goal.returns
unfolding import_outcome bounds_ground
returns c = c.import_lines.ensures ∙ heading_good _ _ _ _ _ (sym c.in_default.ensures) c.in-Some.ensures
