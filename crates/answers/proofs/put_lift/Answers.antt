-- `answers::put_lift` meets its contract: two numbers side by side.
use Rattle.answers.proofs.Printing.{lift_printed}
use Rattle.answers.proofs.put_lift.Goals as goal

pub returns : goal.returns
returns c =
    rw (c.put_number-2.ensures, c.put_number.ensures, c.size_of-size.ensures)
    (lift_printed _ _ c.args.code c.requires)
