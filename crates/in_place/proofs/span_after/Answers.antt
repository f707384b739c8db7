-- `in_place::span_after` meets its contract, field by field.
use mathlib.Core.Path.{ap₂, ◌∙◌}
use mir.Syntax.{w32}
use mir.ValLaws.{to_z-of_z}
use Rattle.bounds.specs.Lifts.{low_with, high_with}
use Rattle.in_place.proofs.InPlace.{span_made}
use Rattle.in_place.proofs.span_after.Goals as goal

pub returns : goal.returns
returns c = λ buckets page section.
    let load = to_z-of_z w32 c.args.load c.ranges.load in
    let n = c.get_u16-count in
    let l = c.load_at-low in
    let h = c.load_at-high in
    let low = c.low_after in
    let high = c.high_after in
    span_made _ _ c.args.load buckets page section n.result _ _ l.result h.result _ _ n.ensures c.get_u64-start.ensures
    l.ensures h.ensures c.start_after.ensures
    (to_z-of_z w32 low.result (record { sfits = low.type_inv }) ∙ low.ensures
    ∙ ap₂ (low_with n.result) (to_z-of_z w32 l.result (record { sfits = l.type_inv })) load)
    (to_z-of_z w32 high.result (record { sfits = high.type_inv }) ∙ high.ensures
    ∙ ap₂ (high_with n.result) (to_z-of_z w32 h.result (record { sfits = h.type_inv })) load)
