-- `keeping::pieces::shed` meets its contract: the slot and the serial, then the segment.
use mathlib.Core.Path.{ap₂, ◌∙◌}
use mathlib.Core.Option.{Option}
use mathlib.Core.List.{List}
use Prim.Native.Nat.{ℕ}
use Rattle.form.specs.declared.Form.TheVariants.{New}
use Rattle.counts.specs.Counts.{without_segment}
use Rattle.keeping.proofs.pieces.shed.Goals as goal

pub returns : goal.returns
returns c =
    let a = c.args in
    c.without_segment.ensures
    ∙ ap₂ {C = Option (List ℕ)} (λ slot before. without_segment New a.nand.now a.slots slot before a.counts) c.slot_of-slot.ensures.0 c.open_then-before.ensures
