-- `loads::put_loads` meets its contract: in each turn one load more is written.
use Rattle.loads.specs.Signed.{load_bytes}
use Rattle.loads.proofs.SideBySide.{Put}
use Rattle.loads.proofs.Loads.{length_load}
use Rattle.loads.proofs.put_loads.Given as goal

abbrev pub invariant-loop-i : goal.invariant-loop-i
invariant-loop-i l = Put load_bytes 4 length_load l.initial.b l.at l.fn.loads l.b l.i
