-- `dropped_first`: the drop, if it is due.
use Rattle.store.proofs.Forced.{drops_some, due_not, due_done}
use mathlib.Core.Path.{ap}
use mathlib.Core.Bool.{not}
use Rattle.store.proofs.State.dropped_first.Goals as goal

pub returns-then-not-drops_first : goal.returns-then-not-drops_first
returns-then-not-drops_first c =
    let a = c.args in
    due_not a.nand.now a.self a.slots _ c.drops_first.ensures (ap not c.if-not-drops_first.true)

pub dropped-requires : goal.dropped-requires
dropped-requires c =
    let a = c.args in
    let d = drops_some a.nand.now a.self a.slots _ c.drops_first.ensures (ap not c.if-not-drops_first.false) c.requires.1 in
    (c.requires.0, c.requires.1, c.requires.2, d)

pub returns : goal.returns
returns c =
    let a = c.args in
    let d = c.dropped.ensures in
    due_done a.nand.now a.self a.slots _ c.drops_first.ensures _ _ (ap not c.if-not-drops_first.false) d.0 d.1
