-- `codec::all_ones` meets its contract. The invariant: what was tested and what is left decide what the whole decides.
use Rattle.std.proofs.Common.{◌≡◌, ◌&&◌, drop}
use Rattle.codec.specs.Area.{all_ones}
use Rattle.codec.proofs.all_ones.Given as goal

abbrev pub invariant-loop-b : goal.invariant-loop-b
invariant-loop-b l = (l.good && all_ones (drop l.b-index l.b-items)) ≡ all_ones l.b-items
