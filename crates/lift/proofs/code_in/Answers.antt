-- `lift::code_in` meets its contract: it is read in the record.
use mathlib.Core.Path.{◌∙◌}
use Rattle.lift.proofs.Rows.{code_of_record}
use Rattle.lift.proofs.code_in.Goals as goal

pub returns : goal.returns
returns c =
    let a = c.args in
    c.record_code.ensures
    ∙ rw c.record_of.ensures.is (code_of_record a.lifts.now a.tail.now a.first a.p c.requires.0 c.requires.1)
