-- `walk::start_of` meets its contract: nothing to do in the closed segments, or where the walk leads.
use Rattle.walk.specs.Inner.Placed.{walk_at}
use Rattle.walk.proofs.Hops.{start_none, start_reached}
use native.Mathlib.Omega.{arith}
use Rattle.walk.proofs.start_of.Goals as goal

pub returns-then-done : goal.returns-then-done
returns-then-done c = let s = start_none _ _ _ _ c.if-done.true in
    record {
      at = s.at_is;
      moves = s.moves_are;
    }

pub pointer_from-requires : goal.pointer_from-requires
pointer_from-requires c = (c.seek-w.ensures.inside, omega arith)

pub returns : goal.returns
returns c =
    let a = c.args in
    let s = start_reached _ _ _ _ c.if-done.false (walk_at a.nand.now a.g.heads 0 c.seek-w.result) c.seek-w.ensures.leads _
    c.pointer_from.ensures in
    record {
      at = s.at_is;
      moves = s.moves_are;
    }
