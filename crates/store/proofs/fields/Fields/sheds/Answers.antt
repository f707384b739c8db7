-- `sheds`: the test of the state after a close, or of the state as it is.
use mathlib.Core.Path.{sym, ◌∙◌}
use Rattle.grow.specs.Inner.Meaning.{meaning}
use Rattle.store.proofs.Plain.{sheds_closed, sheds_open}
use Rattle.store.proofs.fields.Fields.sheds.Goals as goal

pub returns-then-is_full : goal.returns-then-is_full
returns-then-is_full c =
    λ w same.
    sheds_closed w _ (meaning c.args.p) c.args.self _ same
    (sym c.is_full.ensures ∙ c.if-is_full.true) c.drops_first.ensures

pub returns : goal.returns
returns c =
    λ w same.
    sheds_open w _ (meaning c.args.p) c.args.self _ same
    (sym c.is_full.ensures ∙ c.if-is_full.false) c.drops_first-2.ensures
