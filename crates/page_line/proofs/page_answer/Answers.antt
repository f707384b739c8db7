-- `page_line::page_answer` meets its contract: letter, number and, where that is 0, the page.
use mathlib.Core.Path.{refl, ◌∙◌}
use lib.ListN.{length-set}
use Rattle.grounds.proofs.Numbers.{number_some}
use Rattle.questions.proofs.TallyMost.{counts_fit}
use Rattle.page_line.proofs.ServicePage.{refused_put, page_put}
use native.Mathlib.Omega.{arith}
use Rattle.page_line.proofs.page_answer.Goals as goal

pub returns-in-Err : goal.returns-in-Err
returns-in-Err c =
    let n = rw c.in-Err.is at c.number_in.ensures in
    refused_put _ _ _ _ (rw c.in-Err.is at c.tally-t.ensures) c.args.o.now c.requires _ (rw n at c.put_head.ensures)
    (λ z. omega (arith, number_some c.in-Err.field-0))

pub put_page-requires : goal.put_page-requires
put_page-requires c =
    let k = c.put_head.auto.s in
    (simp length-set (omega arith), omega (arith, counts_fit _ _ _ _ (rw c.in-Ok.is at c.tally-t.ensures)))

pub returns-in-Ok : goal.returns-in-Ok
returns-in-Ok c =
    let n = rw c.in-Ok.is at c.number_in.ensures in
    page_put _ _ _ _ (rw c.in-Ok.is at c.tally-t.ensures) c.args.o.now c.requires _ (rw n at c.put_head.ensures) refl _ c.put_page.ensures
