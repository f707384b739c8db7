-- `joining::look::look_in` meets its contract: each turn leads to the same end.
use Rattle.bitset.specs.Inner.Words.{members, Below}
use Rattle.bitset.specs.Inner.Emptying.{places_left}
use Rattle.joining.specs.Inner.Looking.{fit_in, taken_of, left_of, ends, Looks}
use Rattle.joining.proofs.look.look_in.Given as goal

abbrev pub invariant-loop-p : goal.invariant-loop-p
invariant-loop-p l =
    let fit = fit_in l.s l.lifts l.tail l.g.first in
    let ps = members l.fn.set.words in
    Looks l.s.rising fit (left_of l.s.rising fit ps) (taken_of l.s.rising fit ps) (ends l.s.rising fit ps) l.left (places_left l.p-iterator)
    × Below l.g.count (places_left l.p-iterator)
