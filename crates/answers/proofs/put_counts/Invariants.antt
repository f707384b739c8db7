-- `answers::put_counts` meets its contract. The invariant: the counts that are left, written, give what the whole gives.
use Rattle.std.proofs.Common.{◌≡◌, ◌+◌, ◌*◌, drop}
use Rattle.codec.specs.Area.{splice}
use Rattle.answers.specs.Printed.{counts_bytes}
use Rattle.answers.proofs.put_counts.Given as goal

abbrev pub invariant-loop-i : goal.invariant-loop-i
invariant-loop-i l = splice l.s (4 + 7 * l.i) (counts_bytes (drop l.i l.fn.counts)) ≡ splice l.initial.s 4 (counts_bytes l.fn.counts)
