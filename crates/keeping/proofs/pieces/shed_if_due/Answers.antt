-- `keeping::pieces::shed_if_due` meets its contract: the counts as they are, or after the drop.
use mathlib.Core.Path.{sym, ap, ◌∙◌}
use mathlib.Core.Bool.{Bool}
use Rattle.keeping.specs.Inner.Shedding.{shed_if}
use Rattle.keeping.proofs.pieces.shed_if_due.Goals as goal

pub returns-then-not-sheds : goal.returns-then-not-sheds
returns-then-not-sheds c =
    let a = c.args in
    λ w same.
    ap (λ (t : Bool). shed_if t a.nand.now a.slots a.f.oldest a.f.current a.f.count a.counts)
    (sym c.if-not-sheds.true ∙ c.sheds.ensures w same)

pub returns : goal.returns
returns c =
    let a = c.args in
    λ w same.
    c.shed.ensures
    ∙ ap (λ (t : Bool). shed_if t a.nand.now a.slots a.f.oldest a.f.current a.f.count a.counts)
    (sym c.if-not-sheds.false ∙ c.sheds.ensures w same)
