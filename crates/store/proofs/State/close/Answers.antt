-- `close`: a refusal for each test, else the open segment is closed.
use mathlib.Core.Path.{refl, sym, ap}
use mathlib.Core.Bool.{not}
use native.Mathlib.Omega.{arith}
use Rattle.std.proofs.lemmas.Result.{err_from_is_err_and}
use Rattle.grounds.proofs.Numbers.{refused}
use Rattle.store.proofs.Outcomes.{close_bounds, close_none, close_unerased, close_done}
use Rattle.store.proofs.Grounds.{standing_judged}
use Rattle.store.proofs.State.close.Goals as goal

pub returns-in_err-ground : goal.returns-in_err-ground
returns-in_err-ground c =
    let a = c.args in
    let p = err_from_is_err_and c.from_residual.result c.from_residual.ensures.1 in
    rw (p.1, p.2) (close_bounds a.nand.now a.nor.now _ _ _ c.in_err-ground.ensures (refused _))

pub returns-then-self-eq0 : goal.returns-then-self-eq0
returns-then-self-eq0 c =
    let a = c.args in
    close_none a.nand.now a.nor.now _ _ _ c.in_ok-ground.ensures refl c.if-self-eq0.true

pub slot_of-slot-requires : goal.slot_of-slot-requires
slot_of-slot-requires c =
    let st = standing_judged _ _ _ _ _ c.in_ok-ground.ensures refl in
    (omega (arith, st.serials.first, st.serials.rising), omega (arith, st.chips.least))

pub pages_erased-requires : goal.pages_erased-requires
pages_erased-requires c =
    let st = standing_judged _ _ _ _ _ c.in_ok-ground.ensures refl in
    omega (arith, st.chips.nand_size, c.slot_of-slot.ensures.1)

pub returns-then-not-pages_erased : goal.returns-then-not-pages_erased
returns-then-not-pages_erased c =
    let a = c.args in
    close_unerased a.nand.now a.nor.now _ _ _ c.in_ok-ground.ensures refl _ c.slot_of-slot.ensures.0 _ c.pages_erased.ensures
    c.if-self-eq0.false (ap not c.if-not-pages_erased.true)

pub closed-requires : goal.closed-requires
closed-requires c = (sym c.in_ok-ground.ensures, omega (arith, c.if-self-eq0.false))

pub returns : goal.returns
returns c =
    let a = c.args in
    close_done a.nand.now a.nor.now _ _ _ c.in_ok-ground.ensures refl _ c.slot_of-slot.ensures.0 _ c.pages_erased.ensures
    c.if-self-eq0.false _ _ _ (ap not c.if-not-pages_erased.false) c.closed.ensures
