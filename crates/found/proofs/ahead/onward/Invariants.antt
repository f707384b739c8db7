-- `found::ahead::onward` meets its contract: segments that are passed over give no rows, and serials fall.
use Rattle.skiplist.specs.Skip.{serials_from}
use Rattle.found.proofs.PassedOver.{PassedTo}
use Rattle.found.proofs.ahead.onward.Given as goal

abbrev pub invariant-loop-d : goal.invariant-loop-d
invariant-loop-d l = PassedTo l.nand l.slots (serials_from l.oldest) l.q l.initial.at l.at

abbrev pub decreases-loop-d : goal.decreases-loop-d
decreases-loop-d l = l.at.before
