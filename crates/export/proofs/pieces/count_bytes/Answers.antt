-- `export::pieces::count_bytes` meets its contract: what is counted and what is left come to the whole.
use mathlib.Core.Path.{◌∙◌}
use Rattle.export.proofs.Sizing.{sizes_none, sizes_more}
use Rattle.export.proofs.pieces.count_bytes.Goals as goal

pub loop-turn-init : goal.loop-turn-init
loop-turn-init c = sizes_none _ _ _ _ _ _ _ _ c.requires.turn

pub loop-turn-preserved : goal.loop-turn-preserved
loop-turn-preserved c =
    sizes_more _ _ _ _ _ _ _ _ c.in-Some.t (rw c.in-Some.is at c.loop-turn.invariant) _
    (c.bytes_in-bytes.ensures.0 ∙ rw c.pages_of-lifts.ensures) c.bytes_in-bytes.ensures.1 _
    (c.in_ok-turn.ensures.turn c.args.page.now c.requires.nand_len.1)
