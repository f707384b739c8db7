-- `room`: the close, if it is due.
use Rattle.store.proofs.Appended.{room_closed, room_kept}
use Rattle.store.specs.World.{world}
use mathlib.Core.Path.{sym, ◌∙◌}
use Rattle.store.proofs.State.room.Goals as goal

pub closed-requires : goal.closed-requires
closed-requires c =
    (c.requires.0, c.requires.1.full (sym c.is_full.ensures ∙ c.if-is_full.true))

pub returns-then-is_full : goal.returns-then-is_full
returns-then-is_full c =
    let f = c.is_full.ensures in
    let a = c.args in
    room_closed (world a.nand.now a.nor.now a.self) _ _ _ _ f
    c.if-is_full.true c.closed.ensures

pub returns : goal.returns
returns c =
    let a = c.args in
    room_kept (world a.nand.now a.nor.now a.self) (world a.nand.now a.nor.now a.self) _ _ _
    c.is_full.ensures c.if-is_full.false
