-- `carried_next`: by the form.
use Rattle.carry.proofs.carried_next.Goals as goal

pub returns-in-Old : goal.returns-in-Old
returns-in-Old c =
    rw c.in-Old.is c.next_back.ensures

pub returns-in-New : goal.returns-in-New
returns-in-New c =
    rw c.in-New.is c.saturating_sub.ensures
