-- `export::pieces::write_lines` meets its contract: lines written and rows left are the whole.
use Rattle.std.proofs.lemmas.Result.{IfOk-weaker}
use Rattle.export.proofs.Writing.{writes_none, writes_here, rows_room, writes_more}
use Rattle.export.proofs.pieces.write_lines.Goals as goal

pub loop-turn-init : goal.loop-turn-init
loop-turn-init c = writes_none _ _ _ _ _ _ _ _ _ _ c.requires.turn

pub put_lines-to-requires-clause-words_len_bound : goal.put_lines-to-requires-clause-words_len_bound
put_lines-to-requires-clause-words_len_bound c =
    let p = c.requires.ends_at in
    let here = writes_here _ _ _ _ _ _ _ _ _ _ _ _ c.loop-turn.invariant _ c.in-Ok-Some.is _ (rw c.in-Ok-Some.is at c.in-Ok-Some.field-0-is) in
    rw c.pages_of-lifts.ensures (rows_room _ _ _ _ _ _ _ _ _ p.0 p.1 _ _ _ here)

pub loop-turn-preserved : goal.loop-turn-preserved
loop-turn-preserved c =
    let p = c.requires.ends_at in
    let here = writes_here _ _ _ _ _ _ _ _ _ _ _ _ c.loop-turn.invariant _ c.in-Ok-Some.is _ (rw c.in-Ok-Some.is at c.in-Ok-Some.field-0-is) in
    writes_more _ _ _ _ _ _ _ _ _ p.0 p.1 _ _ _ here _ _ (rw c.pages_of-lifts.ensures at c.put_lines-to.ensures) _
    (IfOk-weaker c.next-turn.result _ _ (λ n t. t c.args.page.now c.requires.nand_len.1) c.next-turn.ensures.turn) c.next-turn.ensures.damage
