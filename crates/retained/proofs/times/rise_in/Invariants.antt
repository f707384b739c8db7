-- `rise_in`: what is left from place p on gives what the whole gives.
use Rattle.std.proofs.Common.{◌≡◌, ◌-◌}
use Rattle.lift.specs.Rows.{time_in}
use Rattle.bloom.specs.Pages.{each}
use Rattle.retained.specs.Inner.Loops.{rise_over}
use Rattle.retained.proofs.times.rise_in.Given as goal

abbrev pub invariant-loop-p : goal.invariant-loop-p
invariant-loop-p l =
    rise_over l.q (each (time_in l.lifts l.tail l.first) l.p (l.count - l.p)) ≡ rise_over l.initial.q (each (time_in l.lifts l.tail l.first) 0 l.count)
