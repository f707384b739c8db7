-- `plate::plate_of` meets its contract: within the limits a stored load stands for the load.
use mathlib.Core.Path.{sym, ◌∙◌}
use mir.Syntax.{w32}
use mir.ValLaws.{to_z-of_z}
use Rattle.plate.proofs.Lookups.{past_limit, no_such_stack, answered}
use Rattle.plate.proofs.plate_of.Goals as goal

pub returns-then-not-load_ok : goal.returns-then-not-load_ok
returns-then-not-load_ok c =
    let e = rw (to_z-of_z w32 c.args.load c.ranges.load) at c.load_ok.ensures in
    past_limit c.args.place c.args.load (sym e ∙ c.if-not-load_ok.true)

pub returns-then-is_beyond : goal.returns-then-is_beyond
returns-then-is_beyond c =
    let e = rw (to_z-of_z w32 c.args.load c.ranges.load) at c.load_ok.ensures in
    no_such_stack c.args.place c.args.load (sym e ∙ c.if-not-load_ok.false) c.if-is_beyond.true

pub returns : goal.returns
returns c =
    let z = to_z-of_z w32 c.args.load c.ranges.load in
    let e = rw z at c.load_ok.ensures in
    let ec = rw z at c.stored.ensures in
    answered c.args.place c.args.load (sym e ∙ c.if-not-load_ok.false) _ _
    c.if-is_beyond.false ec c.plate_on.ensures
