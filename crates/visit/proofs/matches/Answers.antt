-- `visit::matches` meets its contract: damage, or the positions found that are in the window.
use mathlib.Core.Path.{◌∙◌}
use Rattle.visit.proofs.Matched.{matched}
use Rattle.visit.proofs.matches.Goals as goal

pub returns : goal.returns
returns c =
    record {
      found = c.sweep_tree.ensures.found ∙ matched _ _ _ _ _ c.requires.records.few;
      pages = c.sweep_tree.ensures.pages;
    }
