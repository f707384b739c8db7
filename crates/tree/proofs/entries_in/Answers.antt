-- `tree::entries_in` meets its contract: every entry passed is below the count, and where one is not, it is the end or damage.
use Rattle.std.specs.Prelude.{Some}
use mathlib.Core.Path.{◌≡◌, sym, ap, ◌∙◌}
use native.Mathlib.Omega.{arith}
use Rattle.tree.proofs.Looked.{passed_end, passed_more, passed_damage, entries_end, no_places}
use Rattle.tree.proofs.entries_in.Goals as goal

pub returns-then-p : goal.returns-then-p
returns-then-p c =
    passed_end _ _ _ c.loop-i.invariant (entries_end _ _ _ (sym c.entry_position-p.ensures ∙ c.if-p.true))

pub returns-else-p : goal.returns-else-p
returns-else-p c =
    let p = c.entry_position-p.ensures in
    passed_damage _ _ _ c.loop-i.invariant c.loop-i-test.true (omega (arith, p, c.if-count-p.true)) (λ e. c.if-p.false (p ∙ e))

pub loop-i-preserved : goal.loop-i-preserved
loop-i-preserved c =
    passed_more _ _ _ c.loop-i.invariant c.loop-i-test.true (omega arith)
    (omega (arith, c.entry_position-p.ensures, c.if-count-p.false))

pub returns : goal.returns
returns c =
    let all : 13 ≡ c.loop-i.i = omega arith in
    ap Some all ∙ passed_end _ _ _ c.loop-i.invariant (no_places _ _ _ (omega arith))
