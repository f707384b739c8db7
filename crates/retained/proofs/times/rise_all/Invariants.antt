-- `rise_all`: what is left from serial n on gives what the whole gives.
use Rattle.std.proofs.Common.{◌≡◌, ◌-◌}
use Rattle.retained.specs.Retained.{times_from}
use Rattle.retained.specs.Inner.Loops.{rise_over}
use Rattle.retained.proofs.times.rise_all.Given as goal

abbrev pub invariant-loop-n : goal.invariant-loop-n
invariant-loop-n l =
    rise_over l.q (times_from l.nand l.s.slots (l.s.current - l.n) l.n)
    ≡ rise_over l.initial.q (times_from l.nand l.s.slots (l.s.current - l.s.oldest) l.s.oldest)
