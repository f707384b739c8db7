-- `is_plain`: the two tests.
use Rattle.grow.specs.Inner.Meaning.{meaning}
use Rattle.store.proofs.Plain.{plain_test}
use Rattle.store.proofs.fields.Fields.is_plain.Goals as goal

pub returns : goal.returns
returns c =
    let a = c.args in
    λ s same.
    plain_test s _ (meaning a.p) a.self _ _ same c.is_full-full.ensures c.drops_first-drops.ensures
