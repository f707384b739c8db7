-- `is_clear`: the tree's bytes, then the section's.
use Rattle.store.proofs.Putting.{clear_all}
use Rattle.store.proofs.fields.Fields.is_clear.Goals as goal

pub returns : goal.returns
returns c =
    let a = c.args in
    λ s load same e.
    clear_all s a.self a.nor.now _ _ load _ _ _ same e c.writes_of-w.ensures.is c.clear.ensures
    c.section_clear.ensures
