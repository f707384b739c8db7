-- `joining::look::first_left` meets its contract: segments with no free lift have no rows.
use Rattle.std.proofs.Common.{◌≡◌, [], rules}
use Rattle.whole_log.specs.Inner.Held.{places_in}
use Rattle.joining.proofs.Segments.{passed_more}
use Rattle.joining.proofs.look.first_left.Goals as goal

pub loop-i-preserved : goal.loop-i-preserved
loop-i-preserved c =
    let none : places_in c.args.free.now c.loop-i.i ≡ [] = search rules in
    passed_more _ _ _ _ c.loop-i.invariant c.loop-i-test.true none
