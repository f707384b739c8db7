-- `counts::are_broken` meets its contract: the counts added up.
use Rattle.counts.proofs.Sums.{sum_total}
use Rattle.counts.proofs.are_broken.Goals as goal

pub returns : goal.returns
returns c = rw (c.from.ensures, c.sum_of.ensures, sum_total c.args.counts)
