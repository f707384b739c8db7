-- `pieces::window`: grounds 4 to 6, or a question whose loads are within their limits.
use mathlib.Core.Path.{◌≡◌, sym, ap, ◌∙◌}
use mir.Syntax.{w32}
use mir.ValLaws.{to_z-of_z}
use Rattle.std.specs.Prelude.{Err}
use Rattle.lift.specs.Limits.{load_ok, stored}
use Rattle.lift.proofs.Codes.{within_limits}
use Rattle.bounds.specs.Grounds.{query_ground}
use Rattle.questions.proofs.Asked.{loads_ok_lem}
use borrow.Author.Rules.{rules}
use native.Mathlib.Omega.{arith}
use Rattle.questions.proofs.pieces.window.Goals as goal

pub returns-in_err-query_ground-clause-ground : goal.returns-in_err-query_ground-clause-ground
returns-in_err-query_ground-clause-ground c =
    let r : c.from_residual.result ≡ Err c.in_err-query_ground.field-0.0 = search rules in
    rw r (rw (to_z-of_z w32 c.args.k1 c.ranges.k1, to_z-of_z w32 c.args.k2 c.ranges.k2, c.in_err-query_ground.was) at c.query_ground.ensures)

pub stored-low-requires : goal.stored-low-requires
stored-low-requires c =
    let zero : 0 ≡ query_ground c.args.t1 c.args.t2 c.args.k1 c.args.k2 =
    rw (to_z-of_z w32 c.args.k1 c.ranges.k1, to_z-of_z w32 c.args.k2 c.ranges.k2, c.in_ok-query_ground.was) at c.query_ground.ensures in
    ap load_ok (to_z-of_z w32 c.args.k1 c.ranges.k1) ∙ (loads_ok_lem _ _ _ _ (sym zero)).0

pub stored-high-requires : goal.stored-high-requires
stored-high-requires c =
    let zero : 0 ≡ query_ground c.args.t1 c.args.t2 c.args.k1 c.args.k2 =
    rw (to_z-of_z w32 c.args.k1 c.ranges.k1, to_z-of_z w32 c.args.k2 c.ranges.k2, c.in_ok-query_ground.was) at c.query_ground.ensures in
    ap load_ok (to_z-of_z w32 c.args.k2 c.ranges.k2) ∙ (loads_ok_lem _ _ _ _ (sym zero)).1

pub returns : goal.returns
returns c =
    let zero : 0 ≡ query_ground c.args.t1 c.args.t2 c.args.k1 c.args.k2 =
    rw (to_z-of_z w32 c.args.k1 c.ranges.k1, to_z-of_z w32 c.args.k2 c.ranges.k2, c.in_ok-query_ground.was) at c.query_ground.ensures in
    let low : c.stored-low.result ≡ stored c.args.k1 = c.stored-low.ensures ∙ ap stored (to_z-of_z w32 c.args.k1 c.ranges.k1) in
    let high : c.stored-high.result ≡ stored c.args.k2 = c.stored-high.ensures ∙ ap stored (to_z-of_z w32 c.args.k2 c.ranges.k2) in
    let l = within_limits c.args.k1 (loads_ok_lem _ _ _ _ (sym zero)).0 in
    record { ground = zero; is = (rw (low, high), omega (arith, low, l.low)) }
