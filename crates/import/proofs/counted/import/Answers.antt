-- `import::counted::import` meets its contract: a ground from 1 to 3, a bad header, or the lines behind it.
use mathlib.Core.Path.{sym, ◌∙◌}
use Rattle.grounds.proofs.Numbers.{refused}
use Rattle.import.specs.Call.{import_kept}
use Rattle.import.proofs.Folding.{text_refused, heading_bad, heading_good}
use Rattle.import.proofs.counted.import.Goals as goal

pub returns-in-Err : goal.returns-in-Err
unfolding import_kept
returns-in-Err c =
    rw c.stopped.ensures (text_refused _ _ _ _ _ _ c.in-Err.ensures (refused c.in-Err.ground))

pub returns-in_default-heading_of : goal.returns-in_default-heading_of
unfolding import_kept
returns-in_default-heading_of c =
    rw c.stopped-in_default-heading_of.ensures (heading_bad _ _ _ _ _ (sym c.in_default.ensures) c.in_default-heading_of.ensures)

pub returns : goal.returns
unfolding import_kept
returns c = c.import_lines.ensures ∙ heading_good _ _ _ _ _ (sym c.in_default.ensures) c.in-Some.ensures
