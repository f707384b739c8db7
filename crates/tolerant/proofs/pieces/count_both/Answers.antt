-- `tolerant::pieces::count_both` meets its contract: what is counted and what is left come to the whole.
use mathlib.Core.Path.{◌∙◌}
use native.Mathlib.Omega.{arith}
use borrow.Author.Rules.{rules}
use Prim.Native.Nat.{◌^◌, ◌<◌}
use Rattle.tolerant.proofs.Counting.{many_few, counts_none, certain_few, counts_more}
use Rattle.tolerant.proofs.pieces.count_both.Goals as goal

pub loop-turn-init : goal.loop-turn-init
loop-turn-init c = counts_none _ _ _ _ _ _ _ _ _ c.requires.turn

pub overflow_add-certain : goal.overflow_add-certain
overflow_add-certain c =
    let current-small : c.args.g.current < 2 ^ 32 = search rules in
    let a = c.args in
    let t = c.in-Some.t in
    omega (
      arith,
      current-small,
      certain_few _ _ _ _ _ _ _ _ _ _ t (rw c.in-Some.is at c.loop-turn.invariant),
      c.certain_in-certain.ensures,
      many_few c.pages_of-lifts.result.now a.page.now t.records a.e t.set,
    )

pub loop-turn-preserved : goal.loop-turn-preserved
loop-turn-preserved c =
    counts_more _ _ _ _ _ _ _ _ _ _ c.in-Some.t (rw c.in-Some.is at c.loop-turn.invariant) _ _ (c.certain_in-certain.ensures ∙ rw c.pages_of-lifts.ensures)
    c.count.ensures.0 _ (c.in_ok-turn.ensures.turn c.args.page.now c.requires.nand_len.1)
