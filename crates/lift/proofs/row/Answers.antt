-- `lift::row` meets its contract: 32 bytes from its start on.
use mathlib.Core.Path.{refl}
use Prim.Native.Nat.{◌+◌, ◌*◌}
use Rattle.codec.proofs.Areas.{part_from}
use Rattle.lift.proofs.row.Goals as goal

pub returns : goal.returns
returns c = part_from c.args.area.now (c.args.i * 32) (c.args.i * 32 + 32) 32 refl
