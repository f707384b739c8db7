-- `program_pages`: what is left to program from page p on gives what the whole gives.
use Rattle.std.proofs.Common.{◌∙◌}
use Rattle.segment.proofs.Turns.{programmed_more, programmed_all}
use Rattle.segment.proofs.program_pages.Goals as goal

pub loop-p-preserved : goal.loop-p-preserved
loop-p-preserved c = programmed_more _ _ _ _ 32 _ _ c.loop-p-test.true c.program_page.ensures ∙ c.loop-p.invariant

pub returns : goal.returns
returns c = programmed_all _ _ _ _ 32 _ c.loop-p-test.false ∙ c.loop-p.invariant
