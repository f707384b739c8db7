-- `bloom::bit_page` meets its contract.
use mathlib.Core.Path.{sym}
use native.Mathlib.Omega.{arith}
use Rattle.bloom.proofs.BitsTried.{page_first, page_second}
use Rattle.bloom.proofs.bit_page.Goals as goal

pub returns-then-b-l : goal.returns-then-b-l
returns-then-b-l c = (sym (page_first _ _ c.if-b-l.true), omega arith)

pub returns-else-b-l : goal.returns-else-b-l
returns-else-b-l c = (sym (page_second _ _ c.if-b-l.false (omega (arith, c.requires))), omega arith)
