use Rattle.flash.proofs.is_erased.Goals as goal

pub returns : goal.returns
returns c = rw (← c.page_at-at.ensures) c.all_ones.ensures
