-- `any_serial`: none of the serials that were tried passes.
use Rattle.std.proofs.Common.{ℕ, false, ◌≤◌, ◌<◌}
use Rattle.retained.proofs.headers.any_serial.Given as goal

abbrev pub invariant-loop-n : goal.invariant-loop-n
invariant-loop-n g l = (k : ℕ) → l.n ≤ k → k < l.fn.s.current → goal.F-post g l.fn.has k false
