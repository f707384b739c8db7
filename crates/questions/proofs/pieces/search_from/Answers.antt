-- `pieces::search_from`: a refusal by grounds 1 to 3 as given or by 4 to 6, else what the log holds.
use mathlib.Core.Path.{◌≡◌, refl}
use mir.Syntax.{w32}
use mir.ValLaws.{to_z-of_z}
use Rattle.std.specs.Prelude.{Err}
use Rattle.questions.proofs.Asked.{search_stopped, search_barred, search_done}
use borrow.Author.Rules.{rules}
use Rattle.questions.proofs.pieces.search_from.Goals as goal

pub returns-in_err-judged : goal.returns-in_err-judged
returns-in_err-judged c =
    let r : c.from_residual.result ≡ Err c.in_err-judged.field-0.0 = search rules in
    λ s slots j e p. rw r (search_stopped c.args.nand.now c.args.nor.now s slots c.args.t1 c.args.t2 c.args.k1 c.args.k2 c.args.area.now _
    (rw c.in_err-judged.was at j))

pub returns-in_err-q : goal.returns-in_err-q
returns-in_err-q c =
    let r : c.from_residual-in_err-q.result ≡ Err c.in_err-q.field-0.0 = search rules in
    let k1 = to_z-of_z w32 c.args.k1 c.ranges.k1 in
    let k2 = to_z-of_z w32 c.args.k2 c.ranges.k2 in
    let g = rw (k1, k2, c.in_err-q.was) at c.window.ensures.ground in
    λ s slots j e p. rw r (search_barred c.args.nand.now c.args.nor.now s slots c.args.t1 c.args.t2 c.args.k1 c.args.k2 c.args.area.now
    (rw c.in_ok-judged.was at j) _ g)

pub search_in-requires : goal.search_in-requires
search_in-requires c =
    let q = rw c.in_ok-q.was at c.window.ensures.is in
    record { log_sound = (rw c.in_ok-judged.was at c.requires.log_sound) refl; page_len = c.requires.page_len; le_k1 = q.1 }

pub returns : goal.returns
returns c =
    let k1 = to_z-of_z w32 c.args.k1 c.ranges.k1 in
    let k2 = to_z-of_z w32 c.args.k2 c.ranges.k2 in
    let g = rw (k1, k2, c.in_ok-q.was) at c.window.ensures.ground in
    let q = rw (k1, k2, c.in_ok-q.was) at c.window.ensures.is in
    λ s slots j e p. search_done c.args.nand.now c.args.nor.now s slots c.args.t1 c.args.t2 c.args.k1 c.args.k2 c.args.area.now
    (rw c.in_ok-judged.was at j) g _ _ _ e p q.0 _ c.search_in.ensures
