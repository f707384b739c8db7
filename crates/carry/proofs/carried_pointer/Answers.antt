-- `carried_pointer`: by the form.
use Rattle.carry.specs.Carried.{pointer_into}
use Rattle.carry.proofs.carried_pointer.Goals as goal

pub returns-in-Old : goal.returns-in-Old
unfolding pointer_into
returns-in-Old c =
    λ k e. rw c.in-Old.is c.new.ensures

pub returns-in-New : goal.returns-in-New
returns-in-New c =
    λ k e. rw c.in-New.is (c.with_serial.ensures k e)
