-- `sweep::with_kids` meets its contract.
use Rattle.sweep.proofs.Mask.{kids_whole, kids_split}
use Rattle.sweep.proofs.with_kids.Goals as goal

pub returns-then-mid-eq-NO_MID : goal.returns-then-mid-eq-NO_MID
returns-then-mid-eq-NO_MID c = kids_whole _ _ _ _ _ _ c.if-mid-eq-NO_MID.true

pub with_child-one-requires : goal.with_child-one-requires
with_child-one-requires c = (c.requires c.if-mid-eq-NO_MID.false).0

pub with_child-requires : goal.with_child-requires
with_child-requires c = (c.requires c.if-mid-eq-NO_MID.false).1

pub returns : goal.returns
returns c =
    let split = c.if-mid-eq-NO_MID.false in
    kids_split _ _ _ _ _ _ _ _ split c.with_child-one.ensures c.with_child.ensures
