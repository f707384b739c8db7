-- `tolerant`: what `tolerant_from` gives of the state's own log and page.
use Rattle.questions.proofs.Asked.{log_sound}
use Rattle.tolerant.proofs.tolerant.Goals as goal

pub tolerant_from-requires-clause-log_sound : goal.tolerant_from-requires-clause-log_sound
tolerant_from-requires-clause-log_sound c =
    let a = c.args in
    λ z. log_sound a.nand.now a.nor.now a.s a.slots _ c.ground-judged.ensures z _ c.log_of-g.ensures
