-- `list_pairs` meets its contract: counted in one pass, written in the next.
use mathlib.Core.Path.{refl}
use Rattle.pairs.proofs.Paired.{pass_counts, pass_leaves, answer_16, answer_0}
use Rattle.pairs.proofs.pieces.list_pairs.Goals as goal

pub returns-then-rows-count : goal.returns-then-rows-count
returns-then-rows-count c =
    let j = c.join_all-count in
    let leaves = pass_leaves _ _ _ _ _ _ _ _ _ c.requires.lends _ _ _ _ _ _ _ _ c.requires.in_hand _ _ _ _ j.ensures refl in
    rw leaves
    (answer_16 _ _ _ _ _ _ _ _ _ c.requires.lends _ _ _ _ _ _ _ _ c.requires.in_hand _ _ _ _ j.ensures (rw leaves at c.if-rows-count.true))

pub returns : goal.returns
returns c =
    let w = c.write_pairs in
    let j = c.join_all-count in
    let s = c.requires.in_hand in
    let leaves = pass_leaves _ _ _ _ _ _ _ _ _ c.requires.lends _ _ _ _ _ _ _ _ s _ _ _ _ j.ensures refl in
    let counts = pass_counts _ _ _ _ _ _ _ _ _ c.requires.lends _ _ _ _ _ _ _ _ s _ _ _ _ j.ensures in
    let few = c.if-rows-count.false in
    answer_0 _ _ _ _ _ _ _ _ _ c.requires.lends _ _ _ _ _ _ _ _ s _ _ _ _ j.ensures _ _ leaves few
    (w.ensures _ _ c.requires.lends.rows s.rows (rw counts at few))
