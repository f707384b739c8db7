-- The rows go on being cut from the area.
use Rattle.std.proofs.Common.{◌<◌}
use Rattle.compared.proofs.Sides.rows_agree.Given as goal

abbrev pub invariant-loop-place : goal.invariant-loop-place
invariant-loop-place l = 0 < l.rows.size
