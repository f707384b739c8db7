-- `any_late`: what is left to look at answers as the whole does.
use Rattle.std.proofs.Common.{◌∙◌, arith}
use Rattle.skiplist.specs.Skip.{none}
use Rattle.retained.proofs.Seeking.{late_here, late_later, late_none}
use Rattle.retained.proofs.headers.any_late.Goals as goal

pub returns-then-is_late : goal.returns-then-is_late
returns-then-is_late c = late_here c.args.oldest c.args.first c.loop-q.q-index c.args.p _ (omega arith) _ c.is_late.ensures c.if-is_late.true ∙ c.loop-q.invariant

pub loop-q-preserved : goal.loop-q-preserved
loop-q-preserved c = late_later c.args.oldest c.args.first c.loop-q.q-index c.args.p _ (omega arith) _ c.is_late.ensures c.if-is_late.false ∙ c.loop-q.invariant

pub returns : goal.returns
returns c = late_none c.args.oldest c.args.first c.loop-q.q-index c.args.p none (omega arith) ∙ c.loop-q.invariant
