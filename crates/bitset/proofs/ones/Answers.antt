-- `ones`: a word has at most 64 ones.
use mathlib.Core.Path.{refl}
use lib.Count.{ones-le}
use Rattle.bitset.proofs.ones.Goals as goal

pub returns : goal.returns
returns c = (refl, ones-le 64 c.args.x c.ranges.x.fits)
