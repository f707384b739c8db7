-- `plate::plate_by_end` meets its contract: the load lies up to the end of the near plate or past it, and never past the next one.
use native.Mathlib.Omega.{arith}
use Rattle.plate.proofs.Bands.{plate_is}
use Rattle.plate.proofs.plate_by_end.Goals as goal
use Rattle.plate.proofs.plate_by_end.Goals.{then-end-load, else-end-load}

pub returns : goal.returns
returns c =
    let load = c.args.load in
    plate_is load 0 _ (elim c.if-end-load.branch [
      | then-end-load w ↦ record { small = omega arith; low = λ n. omega arith; high = λ n. omega arith }
      | else-end-load w ↦ record { small = omega arith; low = λ n. omega arith; high = λ n. omega arith }
    ])
