use Rattle.codec.specs.Area.{repeated}
use Rattle.flash.proofs.erase_chip.Goals as goal

pub returns : goal.returns
unfolding repeated
returns c = c.fill.ensures.after (λ y e. e)
