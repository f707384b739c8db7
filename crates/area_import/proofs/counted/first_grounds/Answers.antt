-- `area_import::counted::first_grounds` meets its contract: the state's grounds, and ground 3 of the counts.
use mathlib.Core.Path.{◌∙◌}
use Rattle.store.specs.Inner.Pieces.{bounds_ground}
use Rattle.area_import.proofs.counted.first_grounds.Goals as goal

pub returns : goal.returns
unfolding bounds_ground
returns c = c.with_ground_3.ensures ∙ rw (c.are_broken.ensures, c.get_counts-c.ensures, c.ground-plain.ensures)
