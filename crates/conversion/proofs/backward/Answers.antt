-- `backward`: refused by a ground, or carried.
use mathlib.Core.Path.{refl, ◌≡◌, sym, ◌∙◌}
use Rattle.std.proofs.lemmas.Result.{err_from_is_err_and}
use Rattle.grounds.proofs.Numbers as Numbers
use Rattle.form.specs.declared.Form.TheVariants.{Old, New}
use Rattle.store.specs.World.{world}
use Rattle.carry.specs.Carried.{nand_into, first_time}
use Rattle.conversion.proofs.Judged.{stands, next_most, free, first_free, back_ground_lem, refused, carried}
use native.Mathlib.Omega.{arith}
use Rattle.conversion.proofs.backward.Goals as goal

pub returns-in_err-backward_ground : goal.returns-in_err-backward_ground
returns-in_err-backward_ground c =
    let p = err_from_is_err_and c.from_residual.result c.from_residual.ensures.1 in
    rw (p.1, p.2)
    (refused Old (world c.args.nand.now c.args.nor.now c.args.s) c.args.slots c.args.to_nand.now c.args.to_nor.now _
    (c.in_err-backward_ground.ensures ∙ back_ground_lem _ _ _ _ _ _) _ (Numbers.refused _) refl)

pub carry_chips-requires : goal.carry_chips-requires
carry_chips-requires c =
    let g = free Old c.args.s 0 c.args.nand.now _ _ _ _ (first_free _ _ _ _ _ _ (sym c.in_ok-backward_ground.ensures)) in
    let st = stands New _ _ _ _ g.none.chips g.none.bounds in
    (g.first.nand_size, g.second.nand_size, omega (arith, g.first.least), st.serials.first, st.serials.rising, g.first.nor_size ∙ sym g.second.nor_size)

pub first_time-live-requires : goal.first_time-live-requires
first_time-live-requires c =
    let g = free Old c.args.s 0 c.args.nand.now _ _ _ _ (first_free _ _ _ _ _ _ (sym c.in_ok-backward_ground.ensures)) in
    let st = stands New _ _ _ _ g.none.chips g.none.bounds in
    (g.first.nand_size, omega (arith, g.first.least), st.serials.first, next_most New _ _ _ g.none.bounds)

pub carried_state-state-requires : goal.carried_state-state-requires
carried_state-state-requires c =
    let g = free Old c.args.s 0 c.args.nand.now _ _ _ _ (first_free _ _ _ _ _ _ (sym c.in_ok-backward_ground.ensures)) in
    let st = stands New _ _ _ _ g.none.chips g.none.bounds in
    (omega (arith, st.serials.first, st.serials.rising), next_most New _ _ _ g.none.bounds)

pub returns : goal.returns
unfolding nand_into first_time
returns c =
    carried Old (world c.args.nand.now c.args.nor.now c.args.s) c.args.slots c.args.to_nand.now c.args.to_nor.now _
    (c.in_ok-backward_ground.ensures ∙ back_ground_lem _ _ _ _ _ _) _ _ _ _ refl c.carry_chips.ensures.0 c.carry_chips.ensures.1 c.carried_state-state.ensures c.first_time-live.ensures
