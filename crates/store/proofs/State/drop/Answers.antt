-- `drop`: a refusal for each test, else the oldest closed segment is erased.
use mathlib.Core.Path.{refl}
use native.Mathlib.Omega.{arith}
use Rattle.std.proofs.lemmas.Result.{err_from_is_err_and}
use Rattle.grounds.proofs.Numbers.{refused}
use Rattle.store.proofs.Outcomes.{drop_bounds, drop_none, drop_done}
use Rattle.store.proofs.Grounds.{standing_judged}
use Rattle.store.proofs.State.drop.Goals as goal

pub returns-in_err-ground : goal.returns-in_err-ground
returns-in_err-ground c =
    let a = c.args in
    let p = err_from_is_err_and c.from_residual.result c.from_residual.ensures.1 in
    rw (p.1, p.2) (drop_bounds a.nand.now a.nor.now _ _ _ c.in_err-ground.ensures (refused _))

pub returns-then-self : goal.returns-then-self
returns-then-self c =
    let a = c.args in
    drop_none a.nand.now a.nor.now _ _ _ c.in_ok-ground.ensures refl c.if-self.true

pub dropped-requires : goal.dropped-requires
dropped-requires c =
    let st = standing_judged _ _ _ _ _ c.in_ok-ground.ensures refl in
    (st.chips.nand_size, omega (arith, st.chips.least), st.serials.first, omega (arith, st.serials.rising, c.if-self.false))

pub returns-else-self : goal.returns-else-self
returns-else-self c =
    let a = c.args in
    drop_done a.nand.now a.nor.now _ _ _ c.in_ok-ground.ensures refl _ _ c.if-self.false c.dropped.ensures.0 c.dropped.ensures.1
