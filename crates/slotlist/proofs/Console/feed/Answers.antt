-- `slotlist::Console::feed` meets its contract, byte by byte.
use Rattle.std.proofs.Common.{◌∙◌, arith}
use Rattle.desk.proofs.Typing.{typed_step, typed_done}
use Rattle.slotlist.proofs.Console.feed.Goals as goal

pub loop-b-preserved : goal.loop-b-preserved
loop-b-preserved g c = typed_step _ _ _ c.loop-b.b-index c.loop-b-test.true c.accept.ensures ∙ c.loop-b.invariant

pub returns : goal.returns
returns g c = typed_done _ _ _ c.loop-b.b-index (omega arith) c.loop-b.invariant
