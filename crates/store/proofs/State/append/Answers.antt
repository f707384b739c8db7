-- `append`: refused by its ground, else carried out by its plan.
use mathlib.Core.Path.{◌≡◌, refl, ap, ◌∙◌}
use native.Mathlib.Omega.{arith}
use mir.Syntax.{w32}
use mir.ValLaws.{to_z-of_z}
use Rattle.grounds.specs.Numbers.{number_in}
use Rattle.grounds.proofs.Numbers.{refused, not_done}
use Rattle.lift.specs.Limits.{load_ok}
use Rattle.grow.specs.Inner.Meaning.{meaning}
use Rattle.store.specs.World.{world}
use Rattle.store.specs.Inner.Pieces.{Accepted}
use Rattle.store.proofs.Plain.{append_refused, append_carried, number_of, accepted_of}
use Rattle.store.proofs.State.append.Goals as goal

pub returns-then-is_refused : goal.returns-then-is_refused
returns-then-is_refused c =
    let a = c.args in
    let number = number_of (world a.nand.now a.nor.now a.self) _ _ _ a.load (to_z-of_z w32 a.load c.ranges.load) _ c.plan_append-planned.ensures.number in
    let some : number_in c.plan_append-planned.result ≡ 0 → ⊥ = λ e. omega (arith, e, c.number_in-is_refused.ensures, c.if-is_refused.true) in
    let g = not_done c.plan_append-planned.result some in
    rw (c.and.ensures, g.1) (append_refused (world a.nand.now a.nor.now a.self) _ _ _ _ _ (rw g.1 at number) (refused _))

pub returns-in_err-p : goal.returns-in_err-p
returns-in_err-p c =
    let none : number_in c.plan_append-planned.result ≡ 0 = omega (arith, c.number_in-is_refused.ensures, c.if-is_refused.false) in
    absurd (refused _ (rw c.in_err-p.was at none))

pub carried_out-requires : goal.carried_out-requires
carried_out-requires c =
    let a = c.args in
    let t : Accepted (world a.nand.now a.nor.now a.self) a.slots a.time a.load c.in_ok-p.p =
    accepted_of (world a.nand.now a.nor.now a.self) _ _ _ a.load (to_z-of_z w32 a.load c.ranges.load) _
    (rw c.in_ok-p.was at c.plan_append-planned.ensures.accepted) in
    record { slots_value = (t.bounds, t.suits); load_value = ap load_ok (to_z-of_z w32 a.load c.ranges.load) ∙ t.load_ok }

pub returns : goal.returns
returns c =
    let a = c.args in
    let load = to_z-of_z w32 a.load c.ranges.load in
    let number = number_of (world a.nand.now a.nor.now a.self) _ _ _ a.load load _ (rw c.in_ok-p.was at c.plan_append-planned.ensures.number) in
    let t : Accepted (world a.nand.now a.nor.now a.self) a.slots a.time a.load c.in_ok-p.p =
    accepted_of (world a.nand.now a.nor.now a.self) _ _ _ a.load load _ (rw c.in_ok-p.was at c.plan_append-planned.ensures.accepted) in
    append_carried (world a.nand.now a.nor.now a.self) _ _ a.load a.note _ number (meaning c.in_ok-p.p) _ _ refl t.is load
    c.carried_out.ensures
