-- `pieces::tally_from`: a refusal by grounds 1 to 3 as given or by 4 to 6 over all loads, else the counts of what the log holds.
use mathlib.Core.Path.{◌≡◌, refl}
use Rattle.std.specs.Prelude.{Err}
use Rattle.questions.proofs.Asked.{tally_stopped, tally_barred, tally_done}
use borrow.Author.Rules.{rules}
use Rattle.questions.proofs.pieces.tally_from.Goals as goal

pub returns-in_err-judged : goal.returns-in_err-judged
returns-in_err-judged c =
    let r : c.from_residual.result ≡ Err c.in_err-judged.field-0.0 = search rules in
    λ s slots j e p. rw r (tally_stopped c.args.nand.now c.args.nor.now s slots c.args.t1 c.args.t2 _ (rw c.in_err-judged.was at j))

pub returns-in_err-q : goal.returns-in_err-q
returns-in_err-q c =
    let r : c.from_residual-in_err-q.result ≡ Err c.in_err-q.field-0.0 = search rules in
    let g = rw c.in_err-q.was at c.window.ensures.ground in
    λ s slots j e p. rw r (tally_barred c.args.nand.now c.args.nor.now s slots c.args.t1 c.args.t2 (rw c.in_ok-judged.was at j) _ g)

pub tally_in-requires : goal.tally_in-requires
tally_in-requires c =
    let q = rw c.in_ok-q.was at c.window.ensures.is in
    record { log_sound = (rw c.in_ok-judged.was at c.requires.log_sound) refl; page_len = c.requires.page_len; le_k1 = q.1 }

pub returns : goal.returns
returns c =
    let g = rw c.in_ok-q.was at c.window.ensures.ground in
    let q = rw c.in_ok-q.was at c.window.ensures.is in
    λ s slots j e p. tally_done c.args.nand.now c.args.nor.now s slots c.args.t1 c.args.t2 (rw c.in_ok-judged.was at j) g _ _ _ e p q.0 _
    c.tally_in.ensures
