-- `export::pieces::export_from`: a refusal for grounds 1 to 3 as given or for 4 to 6, else the text of what the log holds.
use mathlib.Core.Path.{◌≡◌, refl, ap₂, ◌∙◌}
use mir.Syntax.{w32}
use mir.ValLaws.{to_z-of_z}
use Rattle.std.proofs.lemmas.Result.{err_from_is_err_and}
use Rattle.grounds.specs.Numbers.{number_in}
use Rattle.grounds.proofs.Numbers.{refused}
use Rattle.bounds.specs.Grounds.{query_ground}
use Rattle.questions.specs.Queries.{query_of}
use Rattle.questions.proofs.Asked.{ground_bounds, ground_query}
use Rattle.export.proofs.Answered.{export_refused, export_done}
use Rattle.export.proofs.pieces.export_from.Goals.{After-window}
use Rattle.export.proofs.pieces.export_from.Goals as goal

-- grounds 4 to 6 are judged by the loads as they are
window_is : (c : After-window) → number_in c.window.result ≡ query_ground c.args.t1 c.args.t2 c.args.k1 c.args.k2
window_is c =
    let a = c.args in
    c.window.ensures.ground ∙ ap₂ (query_ground a.t1 a.t2) (to_z-of_z w32 a.k1 c.ranges.k1) (to_z-of_z w32 a.k2 c.ranges.k2)

pub returns-in_err-judged : goal.returns-in_err-judged
returns-in_err-judged c =
    let a = c.args in
    let r = err_from_is_err_and c.from_residual.result c.from_residual.ensures.1 in
    λ s slots j e p. rw (r.1, r.2)
    (export_refused a.nand.now a.nor.now s slots a.t1 a.t2 a.k1 a.k2 _ _
    (ground_bounds a.nand.now a.nor.now s slots _ (rw c.in_err-judged.was at j) a.t1 a.t2 a.k1 a.k2 (refused _)) (refused _))

pub returns-in_err-q : goal.returns-in_err-q
returns-in_err-q c =
    let a = c.args in
    let r = err_from_is_err_and c.from_residual-in_err-q.result c.from_residual-in_err-q.ensures.1 in
    let m = window_is (goal.at.returns-in_err-q c).After-window in
    λ s slots j e p. rw (r.1, r.2)
    (export_refused a.nand.now a.nor.now s slots a.t1 a.t2 a.k1 a.k2 _ _
    (ground_query a.nand.now a.nor.now s slots _ j a.t1 a.t2 a.k1 a.k2 _ (rw c.in_ok-judged.was refl) (rw c.in_err-q.was at m)) (refused _))

pub returns : goal.returns
returns c =
    let a = c.args in
    let q_is = c.in_ok-q.ensures.is.0 ∙ ap₂ (query_of a.t1 a.t2) (to_z-of_z w32 a.k1 c.ranges.k1) (to_z-of_z w32 a.k2 c.ranges.k2) in
    let m = window_is (goal.at.returns c).After-window in
    λ s slots j e p. export_done a.nand.now a.nor.now s slots a.t1 a.t2 a.k1 a.k2 _ _
    (ground_query a.nand.now a.nor.now s slots _ j a.t1 a.t2 a.k1 a.k2 _ (rw c.in_ok-judged.was refl) m)
    (rw c.in_ok-q.was refl) _ _ _ e p q_is _ c.export_in.ensures
