use mir.ValLaws.{to_z-of_z}
use mathlib.Core.Path.{ap, ◌∙◌}
use mir.Syntax.{w32}
use mir.Val.{to_z, of_z}
use Rattle.bounds.specs.Bounds.{span_ok}
use borrow.Author.Rules.{rules}
use Rattle.store.proofs.State.within_bounds.Goals as goal
-- `within_bounds`: six tests.
use Rattle.store.proofs.Grounds.{six_tests}

pub returns : goal.returns
returns c =
    let s = c.args.self in
    let low = to_z-of_z w32 s.low (search rules) in
    let high = to_z-of_z w32 s.high (search rules) in
    six_tests _ s _ _ _ _ _ _ _ _ c.serials_ok-a.ensures c.counts_ok-b.ensures c.times_ok-c.ensures
    (c.span_ok-d.ensures ∙ ap (λ l. span_ok s.count l (to_z w32 (of_z w32 s.high))) low
    ∙ ap (span_ok s.count s.low) high)
    c.loads_ok-e.ensures c.heads_ok-f.ensures
