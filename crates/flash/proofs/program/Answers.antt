use Rattle.flash.proofs.program.Goals as goal

pub returns : goal.returns
returns c = rw (← c.page_at-at.ensures) c.copy.ensures
