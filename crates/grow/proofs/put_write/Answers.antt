-- `grow::put_write` meets its contract: no write changes nothing.
use mathlib.Core.Path.{refl, sym}
use mathlib.Core.List.{[]}
use Rattle.codec.specs.Number.{bytes}
use Rattle.codec.proofs.Areas.{splice_none}
use Rattle.grow.proofs.put_write.Goals as goal

pub returns-in_default : goal.returns-in_default
unfolding bytes
returns-in_default c = rw c.in_default.is (sym (splice_none c.args.nor.now 0 [] refl))
