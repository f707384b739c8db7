-- What stands after a call that keeps counts: what it hands back, or, refused, what it was called with. Assumes nothing.
use Rattle.std.specs.Prelude.{List, ℕ}
use Rattle.std.specs.declared.result.Result.{Result}
use Rattle.std.specs.declared.result.Result.TheVariants.{Ok, Err}
use Rattle.grounds.specs.declared.Ground.{Ground}
use Rattle.store.specs.declared.State.{State}
use Rattle.keeping.specs.declared.Counted.{Counted}

abbrev pub next_state : State → Result Counted Ground → State
next_state s (Ok k) = k.state
next_state s (Err g) = s

abbrev pub next_counts : List ℕ → Result Counted Ground → List ℕ
next_counts counts (Ok k) = k.counts
next_counts counts (Err g) = counts
