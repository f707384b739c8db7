-- `new`: field by field.
use Rattle.store.proofs.Steps.{formatted_made}
use Rattle.store.proofs.State.new.Goals as goal

pub returns : goal.returns
returns c =
    formatted_made _ _ _ _ c.no_heads-heads.ensures c.no_loads-loads.ensures
    c.blank_page-page.ensures c.empty_section-bloom.ensures
