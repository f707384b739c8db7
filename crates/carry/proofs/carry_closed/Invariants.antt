-- `carry_closed`: what is left to carry from serial n on gives what the whole gives.
use Rattle.std.proofs.Common.{◌≡◌, ◌-◌}
use Rattle.carry.specs.Carried.{closed_into}
use Rattle.carry.proofs.carry_closed.Given as goal

abbrev pub invariant-loop-n : goal.invariant-loop-n
invariant-loop-n l =
    closed_into l.form (l.s.current - l.n) l.n l.nand l.s.slots l.to
    ≡ closed_into l.form (l.s.current - l.s.oldest) l.s.oldest l.nand l.s.slots l.initial.to
