-- A child's number is a bucket's.
use Rattle.std.proofs.Common.{◌<◌}
use Rattle.plain_list.proofs.plain_tree.Tree.end_of_way.Given as goal

abbrev pub invariant-loop : goal.invariant-loop
invariant-loop l = l.at.0 < 36
