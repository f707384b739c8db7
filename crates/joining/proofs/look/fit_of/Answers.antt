-- `joining::look::fit_of` meets its contract: each test decides.
use Rattle.joining.proofs.Turns.{made_behind, made_ahead, made_joins, made_other}
use Rattle.joining.proofs.look.fit_of.Goals as goal

pub returns-then-t-s : goal.returns-then-t-s
returns-then-t-s c = made_behind _ _ _ c.time_in-t.ensures _ c.if-t-s.true

pub returns-then-t-s-gt-LATER_MOST : goal.returns-then-t-s-gt-LATER_MOST
returns-then-t-s-gt-LATER_MOST c = made_ahead _ _ _ c.time_in-t.ensures _ c.if-t-s.false c.if-t-s-gt-LATER_MOST.true

pub returns-then-m-s : goal.returns-then-m-s
returns-then-m-s c =
    made_joins _ _ _ c.time_in-t.ensures
    c.if-t-s.false c.if-t-s-gt-LATER_MOST.false _ _
    c.member_in-m.ensures c.if-m-s.true

pub returns-else-m-s : goal.returns-else-m-s
returns-else-m-s c =
    made_other _ _ _ c.time_in-t.ensures
    c.if-t-s.false c.if-t-s-gt-LATER_MOST.false _ _
    c.member_in-m.ensures c.if-m-s.false
