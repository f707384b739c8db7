-- `grow::carry` meets its contract: four writes, one after the other.
use Rattle.tree.specs.Writes.{all_written}
use Rattle.grow.proofs.carry.Goals as goal

pub returns : goal.returns
unfolding all_written
returns c =
    rw (c.put_write-4.ensures, c.put_write-3.ensures, c.put_write-2.ensures, c.put_write.ensures)
