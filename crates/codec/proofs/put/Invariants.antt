-- `codec::put` meets its contract. The invariant: what is left to store, stored, gives what the whole gives. Assumes nothing.
use Rattle.std.proofs.Common.{◌≡◌, ◌-◌, length}
use lib.Seq.{sets}
use Rattle.codec.specs.Number.{bytes}
use Rattle.codec.proofs.put.Given as goal

abbrev pub invariant-loop-b : goal.invariant-loop-b
invariant-loop-b l = (length l.b-items ≡ l.n) × (sets l.b-items l.b-index (bytes (l.n - l.b-index) l.rest) ≡ bytes l.n l.v)
