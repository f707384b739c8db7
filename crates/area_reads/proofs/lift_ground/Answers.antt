-- `lift_ground`: grounds 1 to 3, then those of the lift.
use mathlib.Core.Path.{refl, ◌∙◌}
use mir.Syntax.{w32}
use mir.ValLaws.{to_z-of_z}
use Rattle.store.proofs.Appended.{entry_lift}
use Rattle.area_reads.proofs.Reading.{lift_read}
use Rattle.area_reads.proofs.lift_ground.Goals as goal

pub returns : goal.returns
returns c =
    entry_lift _ _ _ _ _ _ _ c.in_ok-ground.ensures _ refl
    (c.lift_ground.ensures
    ∙ lift_read _ _ _ _ _ _ (to_z-of_z w32 c.args.load c.ranges.load) c.get_u64-next.ensures
    c.get_u32-current.ensures)
