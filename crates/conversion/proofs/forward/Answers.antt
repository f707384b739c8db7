-- `forward`: refused by a ground, or carried.
use mathlib.Core.Path.{◌≡◌, refl, sym, ◌∙◌}
use Rattle.std.proofs.lemmas.Result.{err_from_is_err_and}
use Rattle.grounds.proofs.Numbers as Numbers
use Rattle.form.specs.declared.Form.TheVariants.{Old, New}
use Rattle.store.specs.World.{old_world}
use Rattle.carry.specs.Carried.{nand_into}
use Rattle.conversion.proofs.Judged.{stands, next_most, free, there_ground, refused, carried}
use native.Mathlib.Omega.{arith}
use Rattle.conversion.proofs.forward.Goals as goal

pub returns-in_err-first_grounds : goal.returns-in_err-first_grounds
returns-in_err-first_grounds c =
    let p = err_from_is_err_and c.from_residual.result c.from_residual.ensures.1 in
    rw (p.1, p.2)
    (refused New (old_world c.args.nand.now c.args.nor.now c.args.old) c.args.slots c.args.to_nand.now c.args.to_nor.now _
    (c.in_err-first_grounds.ensures ∙ there_ground _ _ _ _ _ _ _) _ (Numbers.refused _) refl)

pub carry_chips-requires : goal.carry_chips-requires
carry_chips-requires c =
    let g = free New c.args.old.state c.args.old.live c.args.nand.now _ _ _ _ (sym c.in_ok-first_grounds.ensures) in
    let st = stands Old _ _ _ _ g.none.chips g.none.bounds in
    (g.first.nand_size, g.second.nand_size, omega (arith, g.first.least), st.serials.first, st.serials.rising, g.first.nor_size ∙ sym g.second.nor_size)

pub carried_state-requires : goal.carried_state-requires
carried_state-requires c =
    let g = free New c.args.old.state c.args.old.live c.args.nand.now _ _ _ _ (sym c.in_ok-first_grounds.ensures) in
    let st = stands Old _ _ _ _ g.none.chips g.none.bounds in
    (omega (arith, st.serials.first, st.serials.rising), next_most Old _ _ _ g.none.bounds)

pub returns : goal.returns
unfolding nand_into
returns c =
    carried New (old_world c.args.nand.now c.args.nor.now c.args.old) c.args.slots c.args.to_nand.now c.args.to_nor.now _
    (c.in_ok-first_grounds.ensures ∙ there_ground _ _ _ _ _ _ _) _ _ _ 0 refl c.carry_chips.ensures.0 c.carry_chips.ensures.1 c.carried_state.ensures refl
