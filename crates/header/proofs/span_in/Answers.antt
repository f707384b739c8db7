-- `span_in`: the test of the four numbers that are read.
use Rattle.header.specs.Header.{span_good}
use Rattle.header.proofs.Tests.{four_read}
use Rattle.header.proofs.span_in.Goals as goal

pub returns : goal.returns
returns c =
    four_read span_good _ _ _ _ _ _ _ _ _ c.get_u64-start.ensures
    c.get_u64-end.ensures c.get_u32-low.ensures
    c.get_u32-high.ensures c.span_good.ensures
