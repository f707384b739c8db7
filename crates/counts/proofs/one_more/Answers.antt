-- `counts::one_more` meets its contract: the plate's place is one of the 22, and no count is above the sum.
use mathlib.Core.Path.{ap}
use Prim.Native.Nat.{ℕ, ◌+◌}
use lib.ListN.{get_or, set}
use Rattle.lift.specs.Limits.{load_of}
use Rattle.plate.proofs.Bands.{plate_small}
use Rattle.plate.proofs.Totals.{place_total}
use Rattle.counts.specs.Counts.{one_more}
use native.Mathlib.Omega.{arith}
use Rattle.counts.proofs.one_more.Goals as goal

pub bounds-c-i : goal.bounds-c-i
bounds-c-i c = rw c.plate_of_code-i.ensures (omega (arith, plate_small (load_of c.args.code)))

pub overflow_add-c : goal.overflow_add-c
overflow_add-c c = record { fits = omega (arith, place_total c.args.counts c.plate_of_code-i.result, c.requires) }

pub bounds-c-i-2 : goal.bounds-c-i-2
bounds-c-i-2 c = rw c.plate_of_code-i.ensures (omega (arith, plate_small (load_of c.args.code)))

pub returns : goal.returns
unfolding one_more
returns c =
    let n = c.args.counts in
    ap (λ (i : ℕ). set n i (get_or n i 0 + 1)) c.plate_of_code-i.ensures
