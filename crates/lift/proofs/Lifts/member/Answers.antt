-- `lift::Lifts::member` meets its contract: it is read in the record.
use mathlib.Core.Path.{◌∙◌}
use native.Mathlib.Omega.{arith}
use Rattle.lift.proofs.Rows.{member_of_record}
use Rattle.lift.proofs.Lifts.member.Goals as goal

pub returns : goal.returns
returns c =
    let s = c.args.self in
    c.record_member.ensures
    ∙ rw c.record.ensures.is (member_of_record s.pages.now s.tail.now s.first c.args.p (omega arith) (omega arith))
