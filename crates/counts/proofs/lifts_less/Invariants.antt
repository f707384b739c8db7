-- `counts::lifts_less` meets its contract: the counts so far with the lifts that are left give what the first counts give with all of them.
use mathlib.Core.Path.{◌≡◌}
use Prim.Native.Nat.{◌*◌, ◌-◌}
use Rattle.lift.specs.Record.{code_at}
use Rattle.bloom.specs.Pages.{each}
use Rattle.counts.specs.Counts.{counted_down}
use Rattle.counts.proofs.lifts_less.Given as goal

abbrev pub invariant-loop-p : goal.invariant-loop-p
invariant-loop-p l =
    counted_down l.c (each (λ q. code_at l.lifts (q * 32)) l.p (l.count - l.p)) ≡ counted_down l.initial.c (each (λ q. code_at l.lifts (q * 32)) 0 l.count)
