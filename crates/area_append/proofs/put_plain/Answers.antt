-- `store_abi::put_plain` meets its contract: the entry into NOR, the lift into the area and out of it.
use mathlib.Core.Path.{◌≡◌, ap, ◌∙◌}
use lib.ListN.{length}
use mir.Syntax.{w32}
use mir.ValLaws.{to_z-of_z}
use Rattle.lift.specs.Limits.{load_ok, stored}
use Rattle.lift.proofs.Codes.{within_limits}
use Rattle.area_append.proofs.Appended.{Fits, fits, plain_left}
use native.Mathlib.Omega.{arith}
use Rattle.area_append.proofs.put_plain.Goals as goal

pub stored-code-requires : goal.stored-code-requires
stored-code-requires c =
    ap load_ok (to_z-of_z w32 c.args.load c.ranges.load) ∙ c.requires.appending.0.accepted.load_ok

pub slot_of-slot-requires : goal.slot_of-slot-requires
slot_of-slot-requires c =
    let fit : let a = c.args in Fits a.state.now a.nand.now a.f a.slots (length a.nor.now) a.p = let a = c.args in
    fits a.state.now a.nand.now a.nor.now a.slots a.time a.load a.p c.requires.appending.0 a.f c.requires.appending.1 in
    let f = fit in (f.serial, f.slots_some)

pub writes_of-w-requires : goal.writes_of-w-requires
writes_of-w-requires c =
    let fit : let a = c.args in Fits a.state.now a.nand.now a.f a.slots (length a.nor.now) a.p = let a = c.args in
    fits a.state.now a.nand.now a.nor.now a.slots a.time a.load a.p c.requires.appending.0 a.f c.requires.appending.1 in
    let f = fit in
    record {
      fitting = f.fitting;
      buckets_le_buckets_most = f.few;
    }

pub carry-requires : goal.carry-requires
carry-requires c =
    let fit : let a = c.args in Fits a.state.now a.nand.now a.f a.slots (length a.nor.now) a.p = let a = c.args in
    fits a.state.now a.nand.now a.nor.now a.slots a.time a.load a.p c.requires.appending.0 a.f c.requires.appending.1 in
    let f = fit in
    (omega (arith, f.nor_size), c.writes_of-w.ensures.inside)

pub buckets_after-after-requires : goal.buckets_after-after-requires
buckets_after-after-requires c =
    let fit : let a = c.args in Fits a.state.now a.nand.now a.f a.slots (length a.nor.now) a.p = let a = c.args in
    fits a.state.now a.nand.now a.nor.now a.slots a.time a.load a.p c.requires.appending.0 a.f c.requires.appending.1 in
    let f = fit in f.fitting

pub put_lift-requires : goal.put_lift-requires
put_lift-requires c =
    let fit : let a = c.args in Fits a.state.now a.nand.now a.f a.slots (length a.nor.now) a.p = let a = c.args in
    fits a.state.now a.nand.now a.nor.now a.slots a.time a.load a.p c.requires.appending.0 a.f c.requires.appending.1 in
    let coded : c.stored-code.result ≡ stored c.args.load = c.stored-code.ensures ∙ ap stored (to_z-of_z w32 c.args.load c.ranges.load) in
    let f = fit in
    let code = coded in
    record {
      b_len = (c.requires.appending.0.size, f.lifts, omega (arith, (within_limits c.args.load c.requires.appending.0.accepted.load_ok).low, code));
      slot_width_in_bounds = (
        omega (arith, f.chip, c.slot_of-slot.ensures.1),
        c.carry.auto.nor ∙ f.nor_size,
      );
    }

pub returns : goal.returns
returns c =
    let coded : c.stored-code.result ≡ stored c.args.load = c.stored-code.ensures ∙ ap stored (to_z-of_z w32 c.args.load c.ranges.load) in
    let a = c.args in
    plain_left a.state.now a.nand.now a.nor.now a.slots a.time a.load a.p c.requires.appending.0 a.note a.f c.requires.appending.1
    c.requires.p_value _ coded _ _ _ _ _ _ _ _ (to_z-of_z w32 a.load c.ranges.load)
    c.slot_of-slot.ensures.0 c.writes_of-w.ensures.is c.carry.ensures
    c.buckets_after-after.ensures c.put_lift.ensures.area c.put_lift.ensures.nand c.put_lift.ensures.nor
