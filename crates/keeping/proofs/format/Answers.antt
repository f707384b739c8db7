-- `keeping::format` meets its contract: a format, and 22 zeros.
use mathlib.Core.Path.{ap}
use Rattle.std.proofs.lemmas.Result.{err_from_is_err_and}
use Rattle.plate.specs.Plate.{no_counts}
use Rattle.store.specs.Calls.{Outcome}
use Rattle.keeping.specs.Keeping.{Counted, format_kept}
use Rattle.keeping.proofs.format.Goals as goal

pub returns-in_err-state : goal.returns-in_err-state
unfolding format_kept
returns-in_err-state c =
    let p = err_from_is_err_and c.from_residual.result c.from_residual.ensures.1 in
    rw (p.1, p.2) (ap {B = Counted} (λ (o : Outcome). record { number = o.number; world = o.world; counts = no_counts }) c.in_err-state.ensures)

pub returns : goal.returns
unfolding format_kept
returns c =
    rw c.no_counts-counts.ensures
    (ap {B = Counted} (λ (o : Outcome). record { number = o.number; world = o.world; counts = no_counts }) c.in_ok-state.ensures)
