-- `joining::join_lift` meets its contract: the lift stands alone, or takes the first free one that fits.
use mathlib.Core.Path.{◌≡◌, refl, sym, ◌∙◌}
use Rattle.lift.specs.Record.{member_at}
use Rattle.lift.specs.Rows.{record_in}
use Rattle.lift.proofs.Rows.{time_of_record, member_of_record}
use Rattle.joining.specs.declared.look.Sought.{Sought}
use Rattle.joining.specs.Inner.Passing.{sought_for}
use Rattle.joining.proofs.Lifts.{lift_nobody, lift_alone, lift_joined}
use Rattle.joining.proofs.join_lift.Goals.{After-member_in-member, After-time_in-time}
use Rattle.joining.proofs.join_lift.Goals as goal

member_is : (c : After-member_in-member) → let a = c.args in
    member_at (record_in a.lifts.now a.tail.now a.first a.p) 0 ≡ c.member_in-member.result
member_is c =
    let a = c.args in
    member_of_record a.lifts.now a.tail.now a.first a.p c.requires.p_in_bounds.0 c.requires.p_in_bounds.1 ∙ sym c.member_in-member.ensures

-- what is sought
sought : (c : After-time_in-time) → let a = c.args in
    ◌≡◌ {A = Sought} (record { time = c.time_in-time.result; member = c.member_in-member.result; rising = a.rising })
    (sought_for a.rising (record_in a.lifts.now a.tail.now a.first a.p))
sought c =
    let a = c.args in
    let p = c.requires.p_in_bounds in
    rw (
      member_of_record a.lifts.now a.tail.now a.first a.p p.0 p.1,
      time_of_record a.lifts.now a.tail.now a.first a.p p.0 p.1,
      ← c.time_in-time.ensures,
      ← c.member_in-member.ensures,
    )

pub returns-then-is_nobody : goal.returns-then-is_nobody
returns-then-is_nobody c =
    lift_nobody _ _ _ _ _ _ _ _ _ _ (member_is (goal.at.returns-then-is_nobody c).After-member_in-member ∙ c.if-is_nobody.true)
    c.requires.readable_from

pub returns-in_default : goal.returns-in_default
returns-in_default c =
    let m = member_is (goal.at.returns-in_default c).After-member_in-member in
    lift_alone _ _ _ _ _ _ _ (λ e. c.if-is_nobody.false (sym m ∙ e)) _ (sought (goal.at.returns-in_default c).After-time_in-time) _ _ _ _
    (c.first_left-from.ensures.2 _) _ c.in_default.ensures _ _ refl

pub returns : goal.returns
returns c =
    let m = member_is (goal.at.returns c).After-member_in-member in
    lift_joined _ _ _ _ _ _ _ (λ e. c.if-is_nobody.false (sym m ∙ e)) _ (sought (goal.at.returns c).After-time_in-time) _ _ _ _
    (c.first_left-from.ensures.2 _) _ c.in-Some.ensures _ _ _ _ refl
    (rw (c.lifts_of-lifts2.ensures, c.records_of-at.ensures) at c.put_pair.ensures)
