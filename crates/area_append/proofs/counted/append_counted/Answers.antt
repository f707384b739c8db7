-- `store_abi::counted::append_counted` meets its contract: the plain append and a lift more, or a drop first.
use mathlib.Core.Path.{◌≡◌, refl, sym, ap, ◌∙◌}
use native.Mathlib.Omega.{arith}
use mathlib.Core.Bool.{false}
use Prim.Native.Nat.{ℕ}
use lib.IntN.{ℤ}
use lib.ListN.{length}
use mir.Syntax.{w32}
use mir.Val.{to_z, of_z}
use mir.ValLaws.{to_z-of_z}
use borrow.Author.Tests.{ltb-false}
use Rattle.lift.specs.Limits.{load_ok, stored}
use Rattle.plate.specs.Total.{total}
use Rattle.counts.specs.Counts.{one_more}
use Rattle.counts.specs.CountsBytes.{counts_bytes, counts_in}
use Rattle.store.specs.Inner.Pieces.{entry_ground}
use Rattle.keeping.proofs.Shedding.{kept_lift}
use Rattle.state_bytes.specs.StateBytes.{state_in}
use Rattle.kept.proofs.Kept.{kept_new, kept_old}
use Rattle.area_append.proofs.GoingOn.{goes_of, no_stop, number_ok, number_err}
use Rattle.areas.proofs.KeptCounts.{plain_kept}
use Rattle.area_append.proofs.ShedAreas.{load_in_lem, shed_none, shedding_on, shedding_same}
use Rattle.area_append.proofs.counted.append_counted.Goals as goal

pub append_on-gone-requires : goal.append_on-gone-requires
append_on-gone-requires c =
    let load_is : to_z w32 (of_z w32 c.args.load) ≡ c.args.load = to_z-of_z w32 c.args.load c.ranges.load in
    let a = c.args in
    (c.requires.size, ap (λ (z : ℤ). entry_ground (state_in a.state.now) (length a.nand.now) (length a.nor.now) a.slots a.time z) load_is ∙ c.requires.entered)

pub append_shedding-requires : goal.append_shedding-requires
append_shedding-requires c =
    let load_is : to_z w32 (of_z w32 c.args.load) ≡ c.args.load = to_z-of_z w32 c.args.load c.ranges.load in
    let a = c.args in
    let g = goes_of false a.state.now a.nand.now a.nor.now a.slots a.time _ a.load load_is a.note _ c.in-None.ensures in
    let s = g.stopped refl in
    shedding_on a.state.now a.counts.now a.nand.now a.nor.now a.slots a.time a.load c.requires _ s.1 _ load_is s.0

pub returns-in-None : goal.returns-in-None
returns-in-None c =
    let load_is : to_z w32 (of_z w32 c.args.load) ≡ c.args.load = to_z-of_z w32 c.args.load c.ranges.load in
    let a = c.args in
    let g = goes_of false a.state.now a.nand.now a.nor.now a.slots a.time _ a.load load_is a.note _ c.in-None.ensures in
    let s = g.stopped refl in
    c.append_shedding.ensures ∙ shedding_same a.state.now a.counts.now a.nand.now a.nor.now a.slots a.time a.load c.requires _ s.1 _ load_is a.note

pub stored-requires : goal.stored-requires
stored-requires c =
    let load_is : to_z w32 (of_z w32 c.args.load) ≡ c.args.load = to_z-of_z w32 c.args.load c.ranges.load in
    let a = c.args in
    ap load_ok load_is ∙ load_in_lem a.state.now a.counts.now a.nand.now a.nor.now a.slots a.time a.load c.requires

pub one_more-requires : goal.one_more-requires
one_more-requires c =
    (c.requires.counts_size, ltb-false 1310720 (total (counts_in c.args.counts.now)) c.requires.unbroken)

pub returns-then-is_ok : goal.returns-then-is_ok
returns-then-is_ok c =
    let load_is : to_z w32 (of_z w32 c.args.load) ≡ c.args.load = to_z-of_z w32 c.args.load c.ranges.load in
    let a = c.args in
    let k = c.requires in
    let on = goes_of false a.state.now a.nand.now a.nor.now a.slots a.time _ a.load load_is a.note _ c.in-Some.ensures in
    let g = on.gone (no_stop c.in-Some.r) in
    plain_kept a.state.now a.counts.now a.nand.now a.nor.now k.size k.counts_size a.slots a.time a.load a.note k.unbroken _
    (kept_lift _ a.slots a.load (counts_in a.counts.now) _ (shed_none a.state.now a.counts.now a.nand.now a.nor.now a.slots a.time a.load k g.0))
    _ _ _ _ _ g.1
    (c.one_more.ensures ∙ ap (λ (n : ℕ). counts_bytes (one_more (counts_in a.counts.now) n)) (c.stored.ensures ∙ ap stored load_is)
    ∙ sym (kept_new _ _ _ (number_ok c.in-Some.r (sym c.is_ok.ensures.value ∙ c.if-is_ok.true))))

pub returns-else-is_ok : goal.returns-else-is_ok
returns-else-is_ok c =
    let load_is : to_z w32 (of_z w32 c.args.load) ≡ c.args.load = to_z-of_z w32 c.args.load c.ranges.load in
    let a = c.args in
    let k = c.requires in
    let on = goes_of false a.state.now a.nand.now a.nor.now a.slots a.time _ a.load load_is a.note _ c.in-Some.ensures in
    let g = on.gone (no_stop c.in-Some.r) in
    plain_kept a.state.now a.counts.now a.nand.now a.nor.now k.size k.counts_size a.slots a.time a.load a.note k.unbroken _
    (kept_lift _ a.slots a.load (counts_in a.counts.now) _ (shed_none a.state.now a.counts.now a.nand.now a.nor.now a.slots a.time a.load k g.0))
    _ _ _ _ _ g.1 (sym (kept_old _ _ a.counts.now (number_err c.in-Some.r (sym c.is_ok.ensures.value ∙ c.if-is_ok.false))))
