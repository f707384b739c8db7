-- `carry_nand`: the open slot, then the closed ones over it.
use mathlib.Core.Path.{◌∙◌}
use Rattle.carry.proofs.carry_nand.Goals as goal

pub returns : goal.returns
returns c =
    c.carry_closed.ensures ∙ rw c.carry_open.ensures
