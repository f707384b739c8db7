-- `codec::all_ones` meets its contract. Assumes nothing.
use Rattle.std.proofs.Common.{◌∙◌, refl, ap}
use Rattle.codec.specs.Area.{all_ones}
use Rattle.codec.proofs.Areas.{part_from}
use Rattle.codec.proofs.Loops.{ones_more, ones_none}
use Rattle.codec.proofs.all_ones.Goals as goal

pub loop-b-preserved : goal.loop-b-preserved
loop-b-preserved c = ones_more _ c.loop-b.good _ c.loop-b-test.true ∙ c.loop-b.invariant

pub returns : goal.returns
returns c = ones_none _ c.loop-b.good _ c.loop-b-test.false ∙ c.loop-b.invariant ∙ ap all_ones (part_from _ _ _ _ refl)
