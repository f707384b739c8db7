-- `blocked`: damage on the path, a close, or neither.
use mathlib.Core.Path.{sym, ap, ◌∙◌}
use Rattle.grow.specs.Inner.Meaning.{meaning}
use Rattle.store.specs.World.{world}
use Rattle.store.specs.Inner.Pieces.{later_ground}
use Rattle.store.proofs.Blocked.{full_is, damaged_later}
use Rattle.store.proofs.fields.Fields.blocked.Goals as goal

pub returns-then-is_damaged_plan : goal.returns-then-is_damaged_plan
returns-then-is_damaged_plan c = λ s load same e. damaged_later _ _ load _ _ c.is_damaged_plan.ensures c.if-is_damaged_plan.true

pub blocked_closing-requires : goal.blocked_closing-requires
blocked_closing-requires c = c.requires.0

pub returns-then-is_full : goal.returns-then-is_full
returns-then-is_full c =
    let a = c.args in
    let full = full_is (meaning a.p) (sym c.is_full.ensures ∙ c.if-is_full.true) in
    λ s load same e.
    c.blocked_closing.ensures s load same
    ∙ ap (later_ground (world a.nand.now a.nor.now s) a.slots load) (sym full)

pub blocked_put-requires : goal.blocked_put-requires
blocked_put-requires c =
    record { sized = (c.requires.0, c.requires.1); p_value = (sym c.is_damaged_plan.ensures ∙ c.if-is_damaged_plan.false, sym c.is_full.ensures ∙ c.if-is_full.false) }

pub returns : goal.returns
returns c = λ s load same e. c.blocked_put.ensures s load same e
