-- `pairs`: what `pairs_from` gives of the states' own logs and pages.
use mathlib.Core.Path.{◌≡◌}
use lib.ListN.{length}
use borrow.Author.Rules.{rules}
use Rattle.questions.proofs.Asked.{log_sound, slots_most_lem}
use Rattle.pairs.proofs.pairs.Goals as goal

pub pairs_from-requires-clause-log_sound : goal.pairs_from-requires-clause-log_sound
pairs_from-requires-clause-log_sound c =
    let a = c.args in
    let long : length a.first.page ≡ 512 = search rules in
    let j = c.ground-n1.ensures in (
      λ z. (
        log_sound a.nand1.now a.nor1.now a.first a.slots1 _ j z _ c.log_of-g1.ensures,
        slots_most_lem a.nand1.now a.nor1.now a.first a.slots1 _ j z _ c.log_of-g1.ensures,
      ),
      long,
    )

pub pairs_from-requires-clause-log_sound_2 : goal.pairs_from-requires-clause-log_sound_2
pairs_from-requires-clause-log_sound_2 c =
    let a = c.args in
    let long : length a.second.page ≡ 512 = search rules in
    let j = c.ground-n2.ensures in (
      λ z. (
        log_sound a.nand2.now a.nor2.now a.second a.slots2 _ j z _ c.log_of-g2.ensures,
        slots_most_lem a.nand2.now a.nor2.now a.second a.slots2 _ j z _ c.log_of-g2.ensures,
      ),
      long,
    )
