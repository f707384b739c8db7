-- `bloom::pages_of_two` meets its contract.
use mathlib.Core.Path.{sym}
use Rattle.bloom.proofs.BitsTried.{same_page, two_pages}
use Rattle.bloom.proofs.pages_of_two.Goals as goal

pub returns-then-a-b : goal.returns-then-a-b
returns-then-a-b c = sym (same_page _ _ c.if-a-b.true)

pub returns-else-a-b : goal.returns-else-a-b
returns-else-a-b c = sym (two_pages _ _ c.if-a-b.false)
