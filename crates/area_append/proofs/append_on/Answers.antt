-- `area_append::append_on` meets its contract: stopped before a forced drop, refused by ground 10 or 11, or put.
use mathlib.Core.Path.{◌≡◌, refl, sym, ap, subst, ◌∙◌}
use lib.IntN.{ℤ}
use mir.Syntax.{w32}
use mir.ValLaws.{to_z-of_z}
use native.Mathlib.Omega.{arith}
use Rattle.grounds.proofs.Numbers.{refused}
use Rattle.lift.specs.Limits.{load_ok, stored}
use Rattle.area_append.specs.Inner.Appending.{Appending}
use Rattle.state_bytes.specs.StateBytes.{state_in}
use Rattle.areas.specs.Areas.{append_called}
use Rattle.area_append.proofs.Appended.{refused_left, load_within, fields_sized, serial_below, planned_number, planned_appending}
use Rattle.area_append.proofs.GoingOn.{later_small, stops_here, goes_past}
use Rattle.area_append.proofs.append_on.Goals as goal

pub stored-code-requires : goal.stored-code-requires
stored-code-requires c =
    let a = c.args in
    ap load_ok (to_z-of_z w32 a.load c.ranges.load)
    ∙ load_within a.state.now a.nand.now a.nor.now a.slots a.time a.load c.requires.0 c.requires.1

pub plan-p-requires : goal.plan-p-requires
plan-p-requires c =
    let a = c.args in
    let z = fields_sized a.state.now a.nand.now a.nor.now a.slots a.time a.load c.requires.0 c.requires.1 _ c.fields_at-f.ensures in
    (z.nor_size, z.buckets_most_lem, z.most, z.loads_ok_lem)

pub sheds-requires : goal.sheds-requires
sheds-requires c =
    let a = c.args in
    let same = c.fields_at-f.ensures in
    ((fields_sized a.state.now a.nand.now a.nor.now a.slots a.time a.load c.requires.0 c.requires.1 _ same).rising, serial_below a.state.now a.nand.now a.nor.now a.slots a.time a.load c.requires.0 c.requires.1 _ same)

pub returns-then-stop : goal.returns-then-stop
returns-then-stop c =
    let a = c.args in
    let load_is = to_z-of_z w32 a.load c.ranges.load in
    let same = c.fields_at-f.ensures in
    let code : c.stored-code.result ≡ stored a.load = c.stored-code.ensures ∙ ap stored load_is in
    let plan = c.plan-p.ensures.is (state_in a.state.now) a.load (sym same) code in
    stops_here a.may_drop a.state.now a.nand.now a.nor.now a.slots a.time a.load a.note _ plan _ (c.sheds.ensures _ (sym same)) c.if-stop.true

pub blocked-requires : goal.blocked-requires
blocked-requires c =
    let a = c.args in
    let same = c.fields_at-f.ensures in
    (fields_sized a.state.now a.nand.now a.nor.now a.slots a.time a.load c.requires.0 c.requires.1 _ same, c.plan-p.ensures.suits.fits)

pub returns-in-Err : goal.returns-in-Err
returns-in-Err c =
    let a = c.args in
    let load_is = to_z-of_z w32 a.load c.ranges.load in
    let same = c.fields_at-f.ensures in
    let code : c.stored-code.result ≡ stored a.load = c.stored-code.ensures ∙ ap stored load_is in
    let plan = c.plan-p.ensures.is (state_in a.state.now) a.load (sym same) code in
    let later = c.in-Err.ensures (state_in a.state.now) a.load (sym same) code in
    goes_past a.may_drop a.state.now a.nand.now a.nor.now a.slots a.time a.load a.note _ plan _ (c.sheds.ensures _ (sym same)) c.if-stop.false _
    (rw later (later_small _ _ _ _))
    (refused_left a.state.now a.nand.now a.nor.now a.slots a.time a.load c.requires.0 a.note _
    (planned_number a.state.now a.nand.now a.nor.now a.slots a.time a.load c.requires.0 c.requires.1 _ same _ _ _ refl c.plan-p.ensures.suits (plan, later)) (refused c.in-Err.ground))

pub put-requires : goal.put-requires
put-requires c =
    let a = c.args in
    let load_is = to_z-of_z w32 a.load c.ranges.load in
    let same = c.fields_at-f.ensures in
    let code : c.stored-code.result ≡ stored a.load = c.stored-code.ensures ∙ ap stored load_is in
    let plan = c.plan-p.ensures.is (state_in a.state.now) a.load (sym same) code in
    let later = c.in_default.ensures (state_in a.state.now) a.load (sym same) code in (
      subst (λ (z : ℤ). Appending a.state.now a.nand.now a.nor.now a.slots a.time z c.plan-p.result) (sym load_is)
          (planned_appending a.state.now a.nand.now a.nor.now a.slots a.time a.load c.requires.0 c.requires.1 _ same _ _ _ refl c.plan-p.ensures.suits (plan, later) refl),
      same,
    )

pub returns : goal.returns
returns c =
    let a = c.args in
    let load_is = to_z-of_z w32 a.load c.ranges.load in
    let same = c.fields_at-f.ensures in
    let code : c.stored-code.result ≡ stored a.load = c.stored-code.ensures ∙ ap stored load_is in
    let plan = c.plan-p.ensures.is (state_in a.state.now) a.load (sym same) code in
    goes_past a.may_drop a.state.now a.nand.now a.nor.now a.slots a.time a.load a.note _ plan _ (c.sheds.ensures _ (sym same)) c.if-stop.false _ (omega arith)
    (c.put.ensures ∙ ap (λ (z : ℤ). append_called a.state.now a.nand.now a.nor.now a.slots a.time z a.note) load_is)
