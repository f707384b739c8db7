-- `whole_log::rise::rises_in` meets its contract: the times behind and those that are left come to the whole.
use Rattle.bitset.specs.Inner.Emptying.{places_left}
use Rattle.whole_log.proofs.Rising.{Climbs}
use Rattle.whole_log.proofs.rise.rises_in.Given as goal

abbrev pub invariant-loop-p : goal.invariant-loop-p
invariant-loop-p l = Climbs l.lifts l.fn.set l.initial.last (places_left l.p-iterator) l.last
