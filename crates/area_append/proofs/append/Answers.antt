-- `area_append::append` meets its contract: refused by a ground from 1 to 8, else it goes on.
use mathlib.Core.Path.{◌≡◌, refl, sym, ap, ◌∙◌}
use lib.IntN.{ℤ}
use lib.ListN.{length}
use mir.Syntax.{w32}
use mir.ValLaws.{to_z-of_z}
use Rattle.std.proofs.lemmas.Result.{err_from_is_err_and}
use Rattle.grounds.proofs.Numbers.{refused}
use Rattle.store.specs.Inner.Pieces.{entry_ground}
use Rattle.state_bytes.specs.StateBytes.{state_in}
use Rattle.area_append.proofs.Appended.{early_left}
use Rattle.area_append.proofs.GoingOn.{never_stops, went}
use Rattle.area_append.proofs.append.Goals as goal

pub returns-in_err-lift_ground : goal.returns-in_err-lift_ground
returns-in_err-lift_ground c =
    let a = c.args in
    let load_is = to_z-of_z w32 a.load c.ranges.load in
    let judged = c.in_err-lift_ground.ensures ∙ ap (λ (z : ℤ). entry_ground (state_in a.state.now) (length a.nand.now) (length a.nor.now) a.slots a.time z) load_is in
    let p = err_from_is_err_and c.from_residual.result c.from_residual.ensures.1 in
    rw (p.1, p.2) (early_left a.state.now a.nand.now a.nor.now a.slots a.time a.load c.requires _ _ judged (refused _))

pub append_on-requires : goal.append_on-requires
append_on-requires c = (c.requires, sym c.in_ok-lift_ground.ensures)

pub unwrap-requires : goal.unwrap-requires
unwrap-requires c =
    let a = c.args in
    never_stops a.state.now a.nand.now a.nor.now _ _ _ a.slots a.time _ a.note _ c.append_on.ensures

pub returns : goal.returns
returns c =
    let a = c.args in
    went a.state.now a.nand.now a.nor.now _ _ _ a.slots a.time _ a.load (to_z-of_z w32 a.load c.ranges.load) a.note _ _ c.unwrap.ensures
    c.append_on.ensures
