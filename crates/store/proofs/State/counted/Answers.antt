-- `counted`: field by field.
use mathlib.Core.Path.{ap₂, ap, ◌∙◌}
use Rattle.bounds.specs.Lifts.{pushed, low_with, high_with}
use mir.Syntax.{w32}
use mir.ValLaws.{to_z-of_z}
use Rattle.store.proofs.Putting.{counted_made}
use borrow.Author.Rules.{rules}
use Rattle.store.proofs.State.counted.Goals as goal

pub returns : goal.returns
returns c =
    let t = c.args.self in
    let load = to_z-of_z w32 c.args.load c.ranges.load in
    let low = to_z-of_z w32 t.low (search rules) in
    let high = to_z-of_z w32 t.high (search rules) in
    counted_made t c.args.time c.args.load _ _ _ _ _ _ _ (c.pushed-loads.ensures ∙ ap (pushed t.loads t.count) load)
    (to_z-of_z w32 c.low_after-low.result (record { sfits = c.low_after-low.type_inv }) ∙ c.low_after-low.ensures ∙ ap₂ (low_with t.count) low load)
    (to_z-of_z w32 c.high_after-high.result (record { sfits = c.high_after-high.type_inv }) ∙ c.high_after-high.ensures ∙ ap₂ (high_with t.count) high load)
    c.start_after-start.ensures
