-- `first_time`: the oldest closed header, else the state.
use mathlib.Core.Path.{ap, ◌∙◌}
use lib.ListN.{length}
use Rattle.codec.proofs.Areas.{length_part}
use Rattle.carry.proofs.Carrying.{first_closed, first_none, first_open}
use native.Mathlib.Omega.{arith}
use Rattle.carry.proofs.first_time.Goals as goal

pub get_u64-requires : goal.get_u64-requires
get_u64-requires c =
    let l = ap length c.pages_of-h.ensures ∙ length_part c.args.nand.now _ 512 (omega (arith, c.slot_of-slot.ensures.1, c.requires)) in
    omega arith

pub returns-then-s : goal.returns-then-s
returns-then-s c =
    first_closed _ _ _ _ _ _ c.if-s.true c.slot_of-slot.ensures.0 c.pages_of-h.ensures c.get_u64.ensures

pub returns-then-s-eq0 : goal.returns-then-s-eq0
returns-then-s-eq0 c =
    first_none _ _ _ _ c.if-s.false c.if-s-eq0.true c.next_back.ensures

pub returns-else-s-eq0 : goal.returns-else-s-eq0
returns-else-s-eq0 c =
    first_open _ _ _ c.if-s.false c.if-s-eq0.false
