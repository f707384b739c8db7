-- `moved_on`: field by field.
use Rattle.store.proofs.Steps.{moved_made}
use Rattle.store.proofs.State.moved_on.Goals as goal

pub returns : goal.returns
returns c =
    moved_made _ _ _ _ _ _ c.heads_closing-heads.ensures c.no_loads-loads.ensures
    c.blank_page-page.ensures c.empty_section-section.ensures
