-- `pages_erased`: what is left to look at from page p on answers as the whole does.
use Rattle.std.proofs.Common.{◌∙◌, ap, not}
use Rattle.segment.proofs.Turns.{erased_not, erased_more, erased_all}
use Rattle.segment.proofs.pages_erased.Goals as goal

pub returns-then-not-is_ready : goal.returns-then-not-is_ready
returns-then-not-is_ready c =
    erased_not _ _ _ _ 32 _ _ c.loop-p-test.true c.is_ready.ensures (ap not c.if-not-is_ready.true) ∙ c.loop-p.invariant

pub loop-p-preserved : goal.loop-p-preserved
loop-p-preserved c =
    erased_more _ _ _ _ 32 _ _ c.loop-p-test.true c.is_ready.ensures (ap not c.if-not-is_ready.false) ∙ c.loop-p.invariant

pub returns : goal.returns
returns c = erased_all _ _ _ _ 32 _ c.loop-p-test.false ∙ c.loop-p.invariant
