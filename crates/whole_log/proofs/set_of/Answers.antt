-- `whole_log::set_of` meets its contract: a closed segment, an open one without lifts, or one with lifts.
use mathlib.Core.Path.{sym, ap, ◌∙◌}
use borrow.Author.Tests.{le-ltb}
use Rattle.sweep.specs.declared.Sweep.{Sweep}
use Rattle.whole_log.proofs.Segments.{open_empty}
use Rattle.whole_log.proofs.set_of.Goals as goal

pub returns-then-g-eq0 : goal.returns-then-g-eq0
returns-then-g-eq0 c =
    let a = c.args in
    let t = le-ltb a.i a.g.slots c.if-i-g.false in
    rw t (c.empty-then-g-eq0.ensures ∙ sym (ap (λ (m : Sweep). m.set.words)
    (open_empty a.nand.now a.nor.now a.page.now a.g a.q c.if-g-eq0.true)))
