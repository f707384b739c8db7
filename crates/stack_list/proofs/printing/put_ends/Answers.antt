-- `stack_list::printing::put_ends` meets its contract. The invariant: what is printed, with the lines left, is the whole.
use Rattle.std.proofs.Common.{arith}
use Rattle.stack_list.proofs.PrintTurns.{printed_on, printed_all}
use Rattle.stack_list.proofs.printing.put_ends.Goals as goal

pub put_turn-at-requires : goal.put_turn-at-requires
put_turn-at-requires c =
    let n = c.type_inv.numbers c.loop-number.number-index in
    (omega arith, (omega arith, (omega arith, omega arith)))

pub sum_on-sum-requires : goal.sum_on-sum-requires
sum_on-sum-requires c =
    let n = c.type_inv.numbers c.loop-number.number-index in
    (omega arith, omega arith)

pub loop-number-preserved : goal.loop-number-preserved
loop-number-preserved c =
    let e = c.put_turn-at in
    let n = c.type_inv.numbers c.loop-number.number-index in
    printed_on _ _ _ _ _ _ _ c.loop-number.invariant c.requires.1 c.loop-number-test.true (omega arith) _ _ _ e.ensures.0 e.ensures.1
    c.sum_on-sum.ensures

pub returns : goal.returns
returns c =
    printed_all _ _ _ _ _ _ _ c.loop-number.invariant c.requires.1 c.loop-number-test.false _ _
    c.put_end.ensures.0 c.put_end.ensures.1
