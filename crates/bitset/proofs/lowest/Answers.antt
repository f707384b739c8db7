-- `lowest`: the count of trailing zeros of a word that is not 0 is the place of a set bit.
use mathlib.Core.Path.{refl}
use native.Mathlib.Omega.{arith}
use lib.Count.{trailing_le}
use Rattle.bitset.proofs.Digits.{lowest, power_within}
use Rattle.bitset.proofs.lowest.Goals as goal

pub overflow_cast-result : goal.overflow_cast-result
overflow_cast-result c = omega (arith, trailing_le 64 c.args.x)

pub returns : goal.returns
returns c =
    let l = lowest 64 c.args.x c.requires c.ranges.x.fits in
    (refl, l.below, power_within _ c.args.x l.is_set_lem)
