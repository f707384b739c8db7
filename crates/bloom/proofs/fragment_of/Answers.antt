-- `fragment_of`: the smaller of 128 and the quotient.
use Rattle.bloom.specs.Pages.{fragment_length}
use Rattle.bloom.proofs.fragment_of.Goals as goal

pub returns : goal.returns
unfolding fragment_length
returns c = c.min.ensures
