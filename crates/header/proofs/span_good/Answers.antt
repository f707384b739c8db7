-- `span_good`: the test itself.
use Rattle.header.proofs.Tests.{span_tests}
use Rattle.header.proofs.span_good.Goals as goal

pub returns : goal.returns
returns c =
    span_tests _ _ _ _ _ _ _ _ c.time_ok.ensures c.time_ok-2.ensures
    c.code_ok.ensures c.code_ok-2.ensures
