-- `visit::open_lifts` meets its contract: the slot is the open serial's.
use mathlib.Core.Path.{ap, ◌∙◌}
use Prim.Native.Nat.{ℕ}
use Rattle.flash.specs.Chip.{pages_of}
use Rattle.visit.proofs.open_lifts.Goals as goal

pub returns : goal.returns
returns c =
    c.pages_of.ensures ∙ ap (λ (n : ℕ). pages_of c.args.nand.now n 0 20)
    c.slot_of-slot.ensures.0
