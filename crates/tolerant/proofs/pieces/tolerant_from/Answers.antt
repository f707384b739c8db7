-- `tolerant::pieces::tolerant_from` meets its contract: a refusal for grounds 1 to 3 as given or for the window, else both lists.
use mathlib.Core.Path.{◌≡◌, refl, sym, ap, ap₂, ◌∙◌}
use mathlib.Core.Bool.{true}
use Prim.Native.Nat.{◌≤◌}
use lib.IntN.{ℤ}
use mir.Syntax.{w32}
use mir.Val.{to_z, of_z}
use mir.ValLaws.{to_z-of_z}
use native.Mathlib.Omega.{arith}
use Rattle.std.proofs.lemmas.Result.{err_from_is_err_and}
use Rattle.grounds.specs.Numbers.{number_in}
use Rattle.grounds.proofs.Numbers.{refused}
use Rattle.lift.specs.Limits.{load_ok, stored}
use Rattle.lift.proofs.Codes.{within_limits}
use Rattle.tolerance.specs.Tolerance.{low_end, high_end}
use Rattle.tolerance.specs.Grounds.{tolerance_ground}
use Rattle.tolerance.specs.Inner.Ends.{narrowed_ends}
use Rattle.tolerance.proofs.ByEnds.{low_end_ok}
use Rattle.tolerant.proofs.Asked.{Window, window_ok, bounds_refused, window_refused, both_listed}
use Rattle.tolerant.proofs.pieces.tolerant_from.Goals.{After-window_ground, In_ok-window_ground, After-widened-wide}
use Rattle.tolerant.proofs.pieces.tolerant_from.Goals as goal

-- the window is judged by the loads as they are
judged : (c : After-window_ground)
    → number_in c.window_ground.result ≡ tolerance_ground c.args.t1 c.args.t2 c.args.k1 c.args.k2 c.args.d
judged c =
    let a = c.args in
    c.window_ground.ensures
    ∙ ap₂ (λ k1 k2. tolerance_ground a.t1 a.t2 k1 k2 a.d) (to_z-of_z w32 a.k1 c.ranges.k1) (to_z-of_z w32 a.k2 c.ranges.k2)

window : (c : In_ok-window_ground) → number_in c.window_ground.result ≡ tolerance_ground c.args.t1 c.args.t2 c.args.k1 c.args.k2 c.args.d
    → Window c.args.k1 c.args.k2 c.args.d
window c e = window_ok _ _ _ _ _ (sym (rw c.in_ok-window_ground.was at e))

loads : (c : In_ok-window_ground) → Window c.args.k1 c.args.k2 c.args.d → let a = c.args in
    (load_ok (to_z w32 (of_z w32 a.k1)) ≡ true) × (load_ok (to_z w32 (of_z w32 a.k2)) ≡ true) × (a.d ≤ 1000)
loads c w = (
  ap load_ok (to_z-of_z w32 c.args.k1 c.ranges.k1) ∙ w.low,
  ap load_ok (to_z-of_z w32 c.args.k2 c.ranges.k2) ∙ w.high,
  w.most,
)

low_is : (c : After-widened-wide) → c.widened-wide.result.low ≡ stored (low_end c.args.k1 c.args.d)
low_is c = c.widened-wide.ensures.low ∙ ap (λ (k : ℤ). stored (low_end k c.args.d)) (to_z-of_z w32 c.args.k1 c.ranges.k1)

pub returns-in_err-judged : goal.returns-in_err-judged
returns-in_err-judged c =
    let a = c.args in
    let r = err_from_is_err_and c.from_residual.result c.from_residual.ensures.1 in
    λ s slots j e p. rw (r.1, r.2)
    (bounds_refused a.nand.now a.nor.now s slots _ (rw c.in_err-judged.was at j) a.t1 a.t2 a.k1 a.k2 a.d _ _ (refused _))

pub returns-in_err-window_ground : goal.returns-in_err-window_ground
returns-in_err-window_ground c =
    let a = c.args in
    let r = err_from_is_err_and c.from_residual-in_err-window_ground.result c.from_residual-in_err-window_ground.ensures.1 in
    let m = judged (goal.at.returns-in_err-window_ground c).After-window_ground in
    λ s slots j e p. rw (r.1, r.2)
    (window_refused a.nand.now a.nor.now s slots _ j a.t1 a.t2 a.k1 a.k2 a.d _ _ (rw c.in_ok-judged.was refl) _
    (rw c.in_err-window_ground.was at m) (refused _))

pub widened-wide-requires : goal.widened-wide-requires
widened-wide-requires c =
    let at = goal.at.widened-wide-requires c in
    loads at.In_ok-window_ground (window at.In_ok-window_ground (judged at.After-window_ground))

pub narrowed-narrow-requires : goal.narrowed-narrow-requires
narrowed-narrow-requires c =
    let at = goal.at.narrowed-narrow-requires c in
    loads at.In_ok-window_ground (window at.In_ok-window_ground (judged at.After-window_ground))

pub list_both-requires-clause-page_len : goal.list_both-requires-clause-page_len
list_both-requires-clause-page_len c =
    let at = goal.at.list_both-requires-clause-page_len c in
    let w = window at.In_ok-window_ground (judged at.After-window_ground) in (
      c.requires.page_len,
      omega (
        arith,
        low_is at.After-widened-wide,
        (within_limits (low_end c.args.k1 c.args.d) (low_end_ok c.args.k1 c.args.d w.low)).low,
      ),
    )

pub returns : goal.returns
returns c =
    let a = c.args in
    let at = goal.at.returns c in
    let low = low_is at.After-widened-wide in
    let high_is : c.widened-wide.result.high ≡ stored (high_end a.k2 a.d) =
    c.widened-wide.ensures.high ∙ ap (λ (k : ℤ). stored (high_end k c.args.d)) (to_z-of_z w32 c.args.k2 c.ranges.k2) in
    let ends-are : c.narrowed-narrow.result ≡ narrowed_ends (stored a.k1) (stored a.k2) a.d =
    c.narrowed-narrow.ensures ∙ ap₂ (λ k1 k2. narrowed_ends (stored k1) (stored k2) c.args.d) (to_z-of_z w32 c.args.k1 c.ranges.k1)
    (to_z-of_z w32 c.args.k2 c.ranges.k2) in
    λ s slots j e p. both_listed a.nand.now a.nor.now s slots _ j a.t1 a.t2 a.k1 a.k2 a.d _ _
    (rw c.in_ok-judged.was refl) _ (judged at.After-window_ground) (rw c.in_ok-window_ground.was refl) _ _ e p _ _ low high_is _ ends-are _
    c.list_both.ensures
