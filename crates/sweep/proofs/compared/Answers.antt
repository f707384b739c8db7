-- `sweep::compared` meets its contract.
use Rattle.sweep.proofs.Passing.{record_out, record_in_lem}
use Rattle.sweep.proofs.compared.Goals as goal

pub returns-then-not-inside : goal.returns-then-not-inside
returns-then-not-inside c =
    let a = c.args in
    record_out a.r a.p a.code _ _ _ _ a.s c.record_code-recorded.ensures c.record_time-t.ensures
    c.if-not-inside.true

pub returns : goal.returns
returns c =
    let a = c.args in
    record_in_lem a.r a.p a.code _ _ _ _ a.s c.record_code-recorded.ensures c.record_time-t.ensures
    c.if-not-inside.false _ c.insert.ensures
