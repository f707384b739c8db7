-- `store_abi::store_plate` meets its contract: the lookup, its plate in the answer's area.
use mathlib.Core.Path.{sym, ap, ◌∙◌}
use mir.Syntax.{w32}
use mir.ValLaws.{to_z-of_z}
use Rattle.plate.specs.Carried.{lookup}
use Rattle.plate.proofs.Lookups.{found_number, found_plate}
use Rattle.areas.specs.Areas.{plate_called}
use Rattle.areas.proofs.Leaves.{one_wrong, one_right, plate_left}
use Rattle.store_abi.proofs.store_plate.Goals as goal

pub returns-then-answer-ne-NUMBER_BYTES : goal.returns-then-answer-ne-NUMBER_BYTES
unfolding plate_called
returns-then-answer-ne-NUMBER_BYTES c = one_wrong _ 8 _ _ c.if-answer-ne-NUMBER_BYTES.true

pub returns : goal.returns
unfolding plate_called
returns c =
    let r = c.plate_of-plate.result in
    let p = c.plate_of-plate.ensures ∙ ap (lookup c.args.place) (to_z-of_z w32 c.args.load c.ranges.load) in
    let n = found_number r ∙ sym c.number_in-number.ensures in
    let m = found_plate r ∙ sym c.unwrap_or.ensures in
    rw (← n)
    (plate_left _ _ _ _ p (rw (← n, ← m) at c.keep_number.ensures) ∙ one_right _ 8 _ _ c.if-answer-ne-NUMBER_BYTES.false)
