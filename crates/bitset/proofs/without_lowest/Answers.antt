-- `without_lowest` meets its contract: the power of its trailing zeros is taken away.
use Rattle.bitset.proofs.without_lowest.Goals as goal

pub returns : goal.returns
returns c = rw (c.power.ensures, c.lowest-k.ensures.0)
