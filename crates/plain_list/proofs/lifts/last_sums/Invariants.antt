-- Each load adds less than 2^32 to the sum, and at most 13 times that to the placed sum.
use Rattle.std.proofs.Common.{◌*◌, ◌^◌, ◌≤◌}
use Rattle.plain_list.proofs.lifts.last_sums.Given as goal

abbrev pub invariant-loop-back : goal.invariant-loop-back
invariant-loop-back l = (l.all ≤ l.back * 2 ^ 33) × (l.placed ≤ l.back * (13 * 2 ^ 33))
