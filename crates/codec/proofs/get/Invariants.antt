-- `codec::get` meets its contract. The invariant: acc is the number in the bytes passed, the last n - i. Assumes nothing.
use Rattle.std.proofs.Common.{◌≡◌, ◌+◌, ◌-◌, ◌<◌, ◌^◌}
use Rattle.codec.specs.Number.{number_at}
use Rattle.codec.proofs.get.Given as goal

abbrev pub invariant-loop-i : goal.invariant-loop-i
invariant-loop-i l = (l.acc ≡ number_at l.s (l.at + l.i) (l.n - l.i)) × (l.acc < 256 ^ (l.n - l.i))
