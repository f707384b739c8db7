-- `sweep::entries` meets its contract: the entries passed and those left are the bucket's.
use Rattle.tree.specs.Reading.{entries_from}
use Rattle.sweep.specs.Inner.Turns.{codes_of, times_of, with_entries}
use Rattle.sweep.proofs.Passing.{Passed}
use Rattle.sweep.proofs.entries.Given as goal

abbrev pub invariant-loop-i : goal.invariant-loop-i
invariant-loop-i l =
    Passed l.bucket l.g.count l.used (codes_of l.lifts l.tail l.g) (times_of l.lifts l.tail l.g) l.r
    (with_entries (codes_of l.lifts l.tail l.g) (times_of l.lifts l.tail l.g) l.r (entries_from l.bucket 13 0) l.initial.s) l.i l.s
