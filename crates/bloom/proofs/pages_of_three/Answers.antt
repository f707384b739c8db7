-- `bloom::pages_of_three` meets its contract: there are two pages only.
use mathlib.Core.Path.{sym, ◌∙◌}
use Rattle.bloom.proofs.BitsTried.{first_again, both_pages}
use Rattle.bloom.proofs.pages_of_three.Goals as goal

pub returns-then-a-b : goal.returns-then-a-b
returns-then-a-b c = c.pages_of_two.ensures ∙ sym (first_again _ _ _ c.if-a-b.true)

pub returns-else-a-b : goal.returns-else-a-b
returns-else-a-b c =
    let p = c.requires in
    sym (both_pages _ _ _ p.0 p.1 p.2 c.if-a-b.false)
