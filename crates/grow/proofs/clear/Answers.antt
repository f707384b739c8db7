-- `grow::clear` meets its contract.
use Rattle.tree.specs.Writes.{all_clear}
use Rattle.grow.proofs.clear.Goals as goal

pub returns : goal.returns
unfolding all_clear
returns c = rw (c.is_clear-4.ensures, c.is_clear-3.ensures, c.is_clear-2.ensures, c.is_clear.ensures)
