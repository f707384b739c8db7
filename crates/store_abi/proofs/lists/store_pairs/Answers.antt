-- `store_abi::lists::store_pairs` meets its contract: the pairs of the two states that the areas hold, their count in the answer's area.
use mathlib.Core.Path.{◌≡◌, ap, ◌∙◌}
use lib.ListN.{length}
use Rattle.grounds.proofs.Numbers.{refused}
use Rattle.store.specs.World.{world}
use Rattle.pairs.specs.Call.{pairs_outcome}
use Rattle.pairs.specs.Inner.Hands.{answered}
use Rattle.questions.proofs.Asked.{log_sound, slots_most_lem}
use Rattle.state_bytes.specs.StateBytes.{state_in}
use Rattle.areas.specs.Areas.{pairs_called}
use Rattle.areas.proofs.Leaves.{page_size, one_wrong, one_right, state_wrong, answer_wrong, both_right, pairs_left}
use Rattle.store_abi.proofs.TextLeft.{kept_not}
use Rattle.store_abi.proofs.lists.store_pairs.Goals.{After-pairs_from}
use Rattle.store_abi.proofs.lists.store_pairs.Goals as goal

pub returns-then-first-ne-STATE_BYTES : goal.returns-then-first-ne-STATE_BYTES
unfolding pairs_called
returns-then-first-ne-STATE_BYTES c = one_wrong _ 783 _ _ c.if-first-ne-STATE_BYTES.true

pub returns-then-second-ne-STATE_BYTES : goal.returns-then-second-ne-STATE_BYTES
unfolding pairs_called
returns-then-second-ne-STATE_BYTES c = state_wrong _ _ 8 _ _ c.if-second-ne-STATE_BYTES.true ∙ one_right _ 783 _ _ c.if-first-ne-STATE_BYTES.false

pub returns-then-answer-ne-NUMBER_BYTES : goal.returns-then-answer-ne-NUMBER_BYTES
unfolding pairs_called
returns-then-answer-ne-NUMBER_BYTES c = answer_wrong _ _ 8 _ _ c.if-second-ne-STATE_BYTES.false c.if-answer-ne-NUMBER_BYTES.true ∙ one_right _ 783 _ _ c.if-first-ne-STATE_BYTES.false

pub pairs_from-requires : goal.pairs_from-requires
pairs_from-requires c =
    let a = c.args in
    let g1 = c.ground-n1.ensures in
    let g2 = c.ground-n2.ensures in
    record {
      log_sound = (
        λ z. (
          log_sound a.nand1.now a.nor1.now (state_in a.first.now) a.slots1 _ g1 z _ c.log_at-g1.ensures,
          slots_most_lem a.nand1.now a.nor1.now (state_in a.first.now) a.slots1 _ g1 z _ c.log_at-g1.ensures,
        ),
        ap length c.page_of-page1.ensures ∙ page_size a.first.now
            c.if-first-ne-STATE_BYTES.false,
      );
      log_sound_2 = (
        λ z. (
          log_sound a.nand2.now a.nor2.now (state_in a.second.now) a.slots2 _ g2 z _ c.log_at-g2.ensures,
          slots_most_lem a.nand2.now a.nor2.now (state_in a.second.now) a.slots2 _ g2 z _ c.log_at-g2.ensures,
        ),
        ap length c.page_of-page2.ensures ∙ page_size a.second.now
            c.if-second-ne-STATE_BYTES.false,
      );
    }

-- what the pairs of the two states come to
outcome : (c : After-pairs_from) → answered c.pairs_from.result c.pairs_from.new.area
    ≡ pairs_outcome (world c.args.nand1.now c.args.nor1.now (state_in c.args.first.now)) c.args.slots1
    (world c.args.nand2.now c.args.nor2.now (state_in c.args.second.now)) c.args.slots2 c.args.rows.now
outcome c =
    let a = c.args in
    c.pairs_from.ensures (state_in a.first.now) (state_in a.second.now) a.slots1 a.slots2 c.ground-n1.ensures c.ground-n2.ensures
    c.log_at-g1.ensures c.page_of-page1.ensures c.log_at-g2.ensures c.page_of-page2.ensures

pub returns-in-Ok : goal.returns-in-Ok
unfolding pairs_called
returns-in-Ok c =
    pairs_left _ _ _ _ _ _ (rw c.in-Ok.is at (outcome (goal.at.returns-in-Ok c).After-pairs_from)) c.keep_number.ensures
    ∙ both_right _ _ 8 _ _ c.if-second-ne-STATE_BYTES.false c.if-answer-ne-NUMBER_BYTES.false
    ∙ one_right _ 783 _ _ c.if-first-ne-STATE_BYTES.false

pub returns-in-Err : goal.returns-in-Err
unfolding pairs_called
returns-in-Err c =
    rw c.number.ensures.is
    (pairs_left _ _ _ _ _ _ (rw c.in-Err.is at (outcome (goal.at.returns-in-Err c).After-pairs_from)) (kept_not _ (refused c.in-Err.g) _ _)
    ∙ both_right _ _ 8 _ _ c.if-second-ne-STATE_BYTES.false c.if-answer-ne-NUMBER_BYTES.false
    ∙ one_right _ 783 _ _ c.if-first-ne-STATE_BYTES.false)
