-- `last_place::highest` meets its contract: what the leading zeros leave of the 64 places.
use native.Mathlib.Omega.{arith}
use lib.Count.{leading_le}
use Rattle.last_place.proofs.LastPlace.{highest_is}
use Rattle.last_place.proofs.highest.Goals as goal

pub overflow_cast-result : goal.overflow_cast-result
overflow_cast-result c = omega (arith, leading_le 64 c.args.x)

pub overflow_sub-result : goal.overflow_sub-result
overflow_sub-result c = (highest_is c.args.x c.requires c.ranges.x.fits).0

pub returns : goal.returns
returns c =
    let h = highest_is c.args.x c.requires c.ranges.x.fits in
    (omega arith, h.1, h.2)
