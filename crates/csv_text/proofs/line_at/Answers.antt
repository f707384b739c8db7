-- `csv_text::line_at` meets its contract: a time, a load and a member, one after the other.
use Rattle.std.specs.Prelude.{Some, None}
use Rattle.std.proofs.Common.{◌∙◌}
use native.Mathlib.Omega.{arith}
use mir.Syntax.{w64}
use mir.ValLaws.{to_z-of_z}
use Rattle.csv_text.proofs.LineRead.{bad_first, bad_second, bad_third, good_line}
use Rattle.csv_text.proofs.line_at.Goals as goal

pub returns-in_err-time : goal.returns-in_err-time
returns-in_err-time c = rw c.from_residual.ensures (bad_first _ _ None c.in_err-time.ensures)

pub returns-in_err-second : goal.returns-in_err-second
returns-in_err-second c = rw c.from_residual-in_err-second.ensures (bad_first _ _ (Some _) (c.in_ok-time.ensures, c.in_err-second.ensures))

pub returns-in_err-load : goal.returns-in_err-load
returns-in_err-load c =
    rw c.from_residual-in_err-load.ensures (bad_second _ _ c.in_ok-time.ensures c.in_ok-second.ensures None c.in_err-load.ensures)

pub returns-in_err-third : goal.returns-in_err-third
returns-in_err-third c =
    rw c.from_residual-in_err-third.ensures
    (bad_second _ _ c.in_ok-time.ensures c.in_ok-second.ensures (Some _) (c.in_ok-load.ensures, c.in_err-third.ensures))

pub returns-in_err-member : goal.returns-in_err-member
returns-in_err-member c =
    rw c.from_residual-in_err-member.ensures
    (bad_third _ _ c.in_ok-time.ensures c.in_ok-second.ensures c.in_ok-load.ensures c.in_ok-third.ensures None c.in_err-member.ensures)

pub returns-in_err-next : goal.returns-in_err-next
returns-in_err-next c =
    rw c.from_residual-in_err-next.ensures
    (bad_third _ _ c.in_ok-time.ensures c.in_ok-second.ensures c.in_ok-load.ensures c.in_ok-third.ensures (Some _)
    (c.in_ok-member.ensures, λ h. c.in_err-next.ensures))

pub returns-then-member-le-MEMBER_MOST : goal.returns-then-member-le-MEMBER_MOST
returns-then-member-le-MEMBER_MOST c =
    rw (to_z-of_z w64 c.load_of.result (record { sfits = c.load_of.type_inv }) ∙ c.load_of.ensures)
    (good_line _ _ c.in_ok-time.ensures c.in_ok-second.ensures c.in_ok-load.ensures c.in_ok-third.ensures c.in_ok-member.ensures
    c.if-member-le-MEMBER_MOST.true _ c.in_ok-next.ensures)

pub returns-else-member-le-MEMBER_MOST : goal.returns-else-member-le-MEMBER_MOST
returns-else-member-le-MEMBER_MOST c =
    bad_third _ _ c.in_ok-time.ensures c.in_ok-second.ensures c.in_ok-load.ensures c.in_ok-third.ensures (Some _)
    (c.in_ok-member.ensures, λ h. absurd (omega (arith, c.if-member-le-MEMBER_MOST.false)))
