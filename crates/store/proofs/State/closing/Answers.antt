use mathlib.Core.Path.{ap, ◌∙◌}
use mir.Syntax.{w32}
use mir.ValLaws.{to_z-of_z}
use Rattle.lift.specs.Limits.{stored}
use borrow.Author.Rules.{rules}
use Rattle.store.proofs.State.closing.Goals as goal
-- `closing`: field by field.
use Rattle.store.proofs.Steps.{closing_made}

pub returns : goal.returns
returns c =
    let s = c.args.self in
    let low = to_z-of_z w32 s.low (search rules) in
    let high = to_z-of_z w32 s.high (search rules) in
    closing_made s _ _ (c.stored-low.ensures ∙ ap stored low) (c.stored-high.ensures ∙ ap stored high)
