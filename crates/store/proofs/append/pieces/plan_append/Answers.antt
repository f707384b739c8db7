-- `plan_append`: grounds 1 to 8, then the plan, then grounds 10 and 11.
use mathlib.Core.Path.{◌≡◌, refl, sym, ap, subst, ◌∙◌}
use lib.ListN.{length}
use mir.Syntax.{w32}
use mir.ValLaws.{to_z-of_z}
use Rattle.std.proofs.lemmas.Result.{err_from_is_err_and}
use Rattle.grounds.proofs.Numbers.{refused}
use Rattle.lift.specs.Limits.{load_ok, stored}
use Rattle.grow.specs.Inner.Meaning.{meaning}
use Rattle.bounds.proofs.Within.{lift_within}
use Rattle.store.specs.declared.fields.Fields.{Fields}
use Rattle.store.specs.World.{world}
use Rattle.store.specs.Inner.Fields.{fields_of, Sized}
use Rattle.store.specs.Inner.Pieces.{Suits, entry_ground}
use Rattle.store.proofs.Grounds.{standing, sized}
use Rattle.store.proofs.Appended.{entry_of, Entered, entered, number_early, number_later, planned_is}
use Rattle.store.proofs.append.pieces.plan_append.Goals as goal

pub returns-in_err-entry_ground-clause-number : goal.returns-in_err-entry_ground-clause-number
returns-in_err-entry_ground-clause-number c =
    let a = c.args in
    let p = err_from_is_err_and c.from_residual.result c.from_residual.ensures.1 in
    let judged = entry_of _ _ _ _ _ _ a.load _ (to_z-of_z w32 a.load c.ranges.load) c.in_err-entry_ground.ensures in
    rw (p.1, p.2) (number_early a.nand.now a.nor.now _ _ _ _ _ judged (refused _))

pub stored-code-requires : goal.stored-code-requires
stored-code-requires c =
    let a = c.args in
    let judged = entry_of _ _ _ _ _ _ a.load _ (to_z-of_z w32 a.load c.ranges.load) c.in_ok-entry_ground.ensures in
    let enters : Entered a.s (length a.nand.now) (length a.nor.now) a.slots a.time a.load = entered _ _ _ _ _ _ (sym judged) in
    ap load_ok (to_z-of_z w32 a.load c.ranges.load) ∙ (lift_within _ _ _ _ enters.lift).load_ok

pub plan-p-requires : goal.plan-p-requires
plan-p-requires c =
    let a = c.args in
    let judged = entry_of _ _ _ _ _ _ a.load _ (to_z-of_z w32 a.load c.ranges.load) c.in_ok-entry_ground.ensures in
    let enters : Entered a.s (length a.nand.now) (length a.nor.now) a.slots a.time a.load = entered _ _ _ _ _ _ (sym judged) in
    let z : Sized a.nand.now a.nor.now a.slots c.fields-f.result = subst (Sized a.nand.now a.nor.now a.slots) (sym c.fields-f.ensures)
    (sized a.nand.now a.nor.now a.s a.slots (standing _ _ _ _ enters.bounds)) in
    (z.nor_size, z.buckets_most_lem, z.most, z.loads_ok_lem)

pub blocked-requires : goal.blocked-requires
blocked-requires c =
    let a = c.args in
    let judged = entry_of _ _ _ _ _ _ a.load _ (to_z-of_z w32 a.load c.ranges.load) c.in_ok-entry_ground.ensures in
    let enters : Entered a.s (length a.nand.now) (length a.nor.now) a.slots a.time a.load = entered _ _ _ _ _ _ (sym judged) in (
      subst (Sized a.nand.now a.nor.now a.slots) (sym c.fields-f.ensures)
          (sized a.nand.now a.nor.now a.s a.slots (standing _ _ _ _ enters.bounds)),
      c.plan-p.ensures.suits.fits,
    )

pub returns-in_err-blocked-clause-number : goal.returns-in_err-blocked-clause-number
returns-in_err-blocked-clause-number c =
    let a = c.args in
    let load = to_z-of_z w32 a.load c.ranges.load in
    let p = err_from_is_err_and c.from_residual-in_err-blocked.result c.from_residual-in_err-blocked.ensures.1 in
    let same : fields_of a.s ≡ c.fields-f.result = sym c.fields-f.ensures in
    let code : c.stored-code.result ≡ stored a.load = c.stored-code.ensures ∙ ap stored load in
    let judged = entry_of _ _ _ _ _ _ a.load _ load c.in_ok-entry_ground.ensures in
    rw (p.1, p.2) (number_later a.nand.now a.nor.now a.s a.slots a.time a.load _ judged refl (meaning c.plan-p.result)
    (c.plan-p.ensures.is a.s a.load same code) _ (c.in_err-blocked.ensures a.s a.load same code))

pub returns-clause-number : goal.returns-clause-number
returns-clause-number c =
    let a = c.args in
    let load = to_z-of_z w32 a.load c.ranges.load in
    let same : fields_of a.s ≡ c.fields-f.result = sym c.fields-f.ensures in
    let code : c.stored-code.result ≡ stored a.load = c.stored-code.ensures ∙ ap stored load in
    let judged = entry_of _ _ _ _ _ _ a.load _ load c.in_ok-entry_ground.ensures in
    number_later a.nand.now a.nor.now a.s a.slots a.time a.load _ judged refl (meaning c.plan-p.result)
    (c.plan-p.ensures.is a.s a.load same code) _ (c.in_ok-blocked.ensures a.s a.load same code)

pub returns-clause-accepted : goal.returns-clause-accepted
returns-clause-accepted c =
    let a = c.args in
    let load = to_z-of_z w32 a.load c.ranges.load in
    let same : fields_of a.s ≡ c.fields-f.result = sym c.fields-f.ensures in
    let code : c.stored-code.result ≡ stored a.load = c.stored-code.ensures ∙ ap stored load in
    let judged = entry_of _ _ _ _ _ _ a.load _ load c.in_ok-entry_ground.ensures in
    let q = c.plan-p.result in
    let suits = subst (λ (f : Fields). Suits f.buckets f.count q) (sym same) c.plan-p.ensures.suits in
    planned_is a.nand.now a.nor.now a.s a.slots a.time a.load _ judged refl (meaning q)
    (c.plan-p.ensures.is a.s a.load same code) _ (c.in_ok-blocked.ensures a.s a.load same code) q refl suits
