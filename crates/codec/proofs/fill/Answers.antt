-- `codec::fill` meets its contract. Assumes nothing.
use Rattle.std.proofs.Common.{◌∙◌, refl, ap, length}
use Rattle.codec.specs.Area.{repeated}
use Rattle.codec.proofs.Areas.{part_from, length_part, length_repeated}
use Rattle.codec.proofs.Loops.{back}
use Rattle.codec.proofs.fill.Goals as goal

pub returns : goal.returns
unfolding repeated
returns c =
    let l = ap length (part_from c.args.s.now c.args.at _ c.args.n refl) ∙ length_part _ _ _ c.requires in
    back _ _ _ _ _ (rw l at c.fill.ensures.after (λ y e. e)) (length_repeated _ _)
