-- `walk::step_of` meets its contract.
use mathlib.Core.Path.{ap}
use Rattle.visit.specs.declared.Closed.{Closed}
use Rattle.walk.specs.declared.Cursor.{Cursor}
use Rattle.walk.specs.declared.Step.TheVariants.{Pass, Visit}
use Rattle.walk.proofs.step_of.Goals as goal

pub returns-in-Passed : goal.returns-in-Passed
returns-in-Passed c = rw c.in-Passed.is (ap Pass c.cursor_at.ensures)

pub returns-in-Searched : goal.returns-in-Searched
returns-in-Searched c =
    let s : Closed = record { slot = c.args.slot; count = c.in-Searched.count; buckets = c.in-Searched.buckets } in
    rw c.in-Searched.is (ap (λ (d : Cursor). Visit s d) c.cursor_at-in-Searched.ensures)
