-- `each_segment::first` meets its contract: damage on the way to the closed segments, or the open one before them.
use mathlib.Core.Path.{sym}
use native.Mathlib.Omega.{arith}
use borrow.Author.Tests.{not-false}
use Rattle.std.proofs.lemmas.Result.{IfOk-weaker}
use Rattle.skiplist.specs.Skip.{serials_from}
use Rattle.found.proofs.All.{all_is}
use Rattle.each_segment.proofs.Turns.{turn_at_hand}
use Rattle.each_segment.proofs.first.Goals as goal

pub returns-clause-turn : goal.returns-clause-turn
returns-clause-turn c =
    let a = c.args in
    let begun = c.requires.begun in
    let good = not-false a.c.good c.if-not-c.false in
    IfOk-weaker c.open_turn.result _ _ (λ t h.
    turn_at_hand a.nand.now a.g.slots (serials_from a.g.oldest) a.q a.page.now _ _ a.c t h begun.sound
    (sym (all_is a.nand.now a.nor.now a.page.now a.g (serials_from a.g.oldest) a.q a.c c.requires.log_sound.nand_size begun good)) _
    (omega (arith, begun.before_most good))) c.open_turn.ensures.turn
