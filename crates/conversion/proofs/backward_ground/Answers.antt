-- `backward_ground`: the first five grounds, then 14.
use mathlib.Core.Path.{refl, sym, ap, ◌∙◌}
use Rattle.std.proofs.lemmas.Result.{err_from_is_err_and}
use Rattle.grounds.proofs.Numbers.{refused}
use Rattle.form.specs.declared.Form.TheVariants.{Old}
use Rattle.bounds.specs.Grounds.{ground}
use Rattle.conversion.proofs.Judged.{free, back_first, back_last}
use Rattle.conversion.proofs.backward_ground.Goals as goal

pub returns-in_err-first_grounds : goal.returns-in_err-first_grounds
returns-in_err-first_grounds c =
    let p = err_from_is_err_and c.from_residual.result c.from_residual.ensures.1 in
    rw (p.1, p.2) (back_first _ _ _ _ _ _ _ c.in_err-first_grounds.ensures (refused _))

pub cannot_go_back-requires : goal.cannot_go_back-requires
cannot_go_back-requires c = (free Old _ 0 _ _ _ _ _ (sym c.in_ok-first_grounds.ensures)).none

pub returns-then-cannot_go_back : goal.returns-then-cannot_go_back
returns-then-cannot_go_back c =
    ap (λ b. ground 14 b 0) (sym c.if-cannot_go_back.true) ∙ back_last _ _ _ _ _ _ _ c.in_ok-first_grounds.ensures refl _ c.cannot_go_back.ensures

pub returns-else-cannot_go_back : goal.returns-else-cannot_go_back
returns-else-cannot_go_back c =
    ap (λ b. ground 14 b 0) (sym c.if-cannot_go_back.false) ∙ back_last _ _ _ _ _ _ _ c.in_ok-first_grounds.ensures refl _ c.cannot_go_back.ensures
