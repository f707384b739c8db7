-- `counts_in`: the test of the four numbers that are read.
use Rattle.header.specs.Header.{counts_good}
use Rattle.header.proofs.Tests.{four_read}
use Rattle.header.proofs.counts_in.Goals as goal

pub returns : goal.returns
returns c =
    four_read counts_good _ _ _ _ _ _ _ _ _ c.get_u16-count.ensures
    c.get_u8-buckets.ensures c.get_u8-sections.ensures
    c.get_u8-fragment.ensures c.counts_good.ensures
