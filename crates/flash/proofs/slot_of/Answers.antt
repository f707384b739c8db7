use Rattle.flash.specs.Chip.{slot_of}
use native.Mathlib.Nat.{mod-lt}
use Prim.Native.Nat.{◌-◌}
use mathlib.Core.Path.{refl}
use Rattle.flash.proofs.slot_of.Goals as goal

pub returns : goal.returns
unfolding slot_of
returns c = (refl, mod-lt (c.args.serial - 1) c.requires.1)
