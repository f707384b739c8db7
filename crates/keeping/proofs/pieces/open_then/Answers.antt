-- `keeping::pieces::open_then` meets its contract.
use borrow.Author.Tests.{eq-eqb, ne_eqb}
use Rattle.keeping.proofs.pieces.open_then.Goals as goal

pub returns-then-count-eq0 : goal.returns-then-count-eq0
returns-then-count-eq0 c = rw (eq-eqb _ 0 c.if-count-eq0.true)

pub returns : goal.returns
returns c = rw (ne_eqb _ 0 c.if-count-eq0.false)
