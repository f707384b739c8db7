-- `split::mid` meets its contract: case, rule and clamp compose as in the definition.
use Rattle.split.specs.Split.{mid}
use Rattle.split.proofs.mid.Goals as goal

pub returns : goal.returns
unfolding mid
returns c = rw (c.bring.ensures, c.rule.ensures, c.overlap.ensures)
