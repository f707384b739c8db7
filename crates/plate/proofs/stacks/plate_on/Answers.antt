-- `plate::stacks::plate_on` meets its contract: by the table of the stack at this place, from zero on.
use mathlib.Core.Path.{refl, sym, ◌∙◌}
use Rattle.plate.proofs.Ends.{all_stacks, ends_most}
use Rattle.plate.proofs.Lookups.{by_zero}
use Rattle.plate.specs.Carried.{carried}
use Rattle.plate.specs.Stack.{all_plates, is_stack, ends_of}
use Rattle.plate.proofs.stacks.plate_on.Goals as goal

pub plate_by-requires : goal.plate_by-requires
unfolding all_stacks is_stack all_plates
plate_by-requires c = rw c.ends_at.ensures (ends_most carried refl c.args.place c.requires)

pub returns : goal.returns
returns c =
    c.plate_by.ensures ∙ rw (c.ends_at.ensures, c.saturating_sub.ensures) (sym (by_zero (ends_of _) c.args.code))
