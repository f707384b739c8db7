-- `store_abi::counted::append_shedding` meets its contract: the segment that goes is counted down, then the plain append.
use mathlib.Core.Option.{none, some}
use mathlib.Core.Path.{◌≡◌, refl, sym, ap, ◌∙◌}
use lib.IntN.{ℤ}
use lib.ListN.{length}
use mir.Syntax.{w32}
use mir.Val.{to_z, of_z}
use mir.ValLaws.{to_z-of_z}
use borrow.Author.Tests.{ltb-false}
use Rattle.std.proofs.lemmas.Result.{err_from_is_err_and}
use Rattle.grounds.proofs.Numbers.{refused}
use Rattle.lift.specs.Limits.{load_ok, stored}
use Rattle.plate.specs.Total.{total}
use Rattle.counts.specs.Counts.{one_more}
use Rattle.counts.specs.CountsBytes.{counts_bytes, counts_in}
use Rattle.store.specs.World.{world}
use Rattle.store.specs.Calls.{plan_of, room_world}
use Rattle.store.specs.Inner.Pieces.{entry_ground}
use Rattle.keeping.specs.Keeping.{counts_shed}
use Rattle.keeping.proofs.Shedding.{shed_total, kept_lift}
use Rattle.state_bytes.specs.StateBytes.{state_in}
use Rattle.kept.proofs.Kept.{kept_old}
use Rattle.area_append.proofs.GoingOn.{never_stops, went}
use Rattle.areas.proofs.KeptCounts.{plain_kept, plain_accepted}
use Rattle.area_append.proofs.ShedAreas.{load_in_lem, shed_ready, shed_due, lost_kept}
use native.Mathlib.Omega.{arith}
use Rattle.area_append.proofs.counted.append_shedding.Goals as goal

pub get_u32-oldest-requires : goal.get_u32-oldest-requires
get_u32-oldest-requires c = omega (arith, c.requires.counting.size)

pub get_u32-current-requires : goal.get_u32-current-requires
get_u32-current-requires c = omega (arith, c.requires.counting.size)

pub get_u16-count-requires : goal.get_u16-count-requires
get_u16-count-requires c = omega (arith, c.requires.counting.size)

pub get_counts-c-requires : goal.get_counts-c-requires
get_counts-c-requires c = c.requires.counting.counts_size

pub shed-requires : goal.shed-requires
shed-requires c =
    let a = c.args in
    shed_ready a.state.now a.counts.now a.nand.now a.nor.now a.slots a.time a.load c.requires.counting _ _ c.get_u32-oldest.ensures c.get_u32-current.ensures

pub returns-in_default : goal.returns-in_default
returns-in_default c =
    let shed : let a = c.args in
    none
    ≡ counts_shed (room_world (world a.nand.now a.nor.now (state_in a.state.now)) a.slots (plan_of (world a.nand.now a.nor.now (state_in a.state.now)) a.load)) a.slots (counts_in a.counts.now) = let a = c.args in
    shed_due a.state.now a.counts.now a.nand.now a.nor.now a.slots a.time a.load c.requires.counting c.requires.due _ _ _ _ _ c.get_u32-oldest.ensures c.get_u32-current.ensures
    c.get_u16-count.ensures c.get_counts-c.ensures c.in_default.ensures in
    let a = c.args in
    lost_kept a.state.now a.counts.now a.nand.now a.nor.now a.slots a.time a.load c.requires.counting a.note _ shed refl

pub append_on-requires : goal.append_on-requires
append_on-requires c =
    let load_is : to_z w32 (of_z w32 c.args.load) ≡ c.args.load = to_z-of_z w32 c.args.load c.ranges.load in
    let a = c.args in
    (c.requires.counting.size, ap (λ (z : ℤ). entry_ground (state_in a.state.now) (length a.nand.now) (length a.nor.now) a.slots a.time z) load_is ∙ c.requires.counting.entered)

pub unwrap-requires : goal.unwrap-requires
unwrap-requires c =
    let a = c.args in
    never_stops a.state.now a.nand.now a.nor.now _ _ _ a.slots a.time _ a.note _ c.append_on.ensures

pub returns-in_err-unwrap : goal.returns-in_err-unwrap
returns-in_err-unwrap c =
    let load_is : to_z w32 (of_z w32 c.args.load) ≡ c.args.load = to_z-of_z w32 c.args.load c.ranges.load in
    let shed : let a = c.args in
    some c.in-Some.left
    ≡ counts_shed (room_world (world a.nand.now a.nor.now (state_in a.state.now)) a.slots (plan_of (world a.nand.now a.nor.now (state_in a.state.now)) a.load)) a.slots (counts_in a.counts.now) = let a = c.args in
    shed_due a.state.now a.counts.now a.nand.now a.nor.now a.slots a.time a.load c.requires.counting c.requires.due _ _ _ _ _ c.get_u32-oldest.ensures c.get_u32-current.ensures
    c.get_u16-count.ensures c.get_counts-c.ensures c.in-Some.ensures in
    let a = c.args in
    let k = c.requires.counting in
    let gone = went a.state.now a.nand.now a.nor.now _ _ _ a.slots a.time _ a.load load_is a.note _ _ c.unwrap.ensures c.append_on.ensures in
    let p = err_from_is_err_and c.from_residual.result c.from_residual.ensures.1 in
    rw (p.1, p.2)
    (plain_kept a.state.now a.counts.now a.nand.now a.nor.now k.size k.counts_size a.slots a.time a.load a.note k.unbroken _
    (kept_lift _ a.slots a.load (counts_in a.counts.now) c.in-Some.left (sym shed))
    _ _ _ _ _ (rw c.in_err-unwrap.was at gone)
    (sym (kept_old _ (counts_bytes (one_more c.in-Some.left (stored a.load))) a.counts.now (refused c.in_err-unwrap.field-0.0))))

pub stored-requires : goal.stored-requires
stored-requires c =
    let load_is : to_z w32 (of_z w32 c.args.load) ≡ c.args.load = to_z-of_z w32 c.args.load c.ranges.load in
    let a = c.args in
    ap load_ok load_is ∙ load_in_lem a.state.now a.counts.now a.nand.now a.nor.now a.slots a.time a.load c.requires.counting

pub one_more-next-requires : goal.one_more-next-requires
one_more-next-requires c =
    let shed : let a = c.args in
    some c.in-Some.left
    ≡ counts_shed (room_world (world a.nand.now a.nor.now (state_in a.state.now)) a.slots (plan_of (world a.nand.now a.nor.now (state_in a.state.now)) a.load)) a.slots (counts_in a.counts.now) = let a = c.args in
    shed_due a.state.now a.counts.now a.nand.now a.nor.now a.slots a.time a.load c.requires.counting c.requires.due _ _ _ _ _ c.get_u32-oldest.ensures c.get_u32-current.ensures
    c.get_u16-count.ensures c.get_counts-c.ensures c.in-Some.ensures in
    let a = c.args in
    let t = shed_total _ a.slots (counts_in a.counts.now) c.in-Some.left (sym shed) in
    omega (arith, t, ltb-false 1310720 (total (counts_in a.counts.now)) c.requires.counting.unbroken)

pub put_counts-requires : goal.put_counts-requires
put_counts-requires c = c.requires.counting.counts_size

pub returns : goal.returns
returns c =
    let load_is : to_z w32 (of_z w32 c.args.load) ≡ c.args.load = to_z-of_z w32 c.args.load c.ranges.load in
    let shed : let a = c.args in
    some c.in-Some.left
    ≡ counts_shed (room_world (world a.nand.now a.nor.now (state_in a.state.now)) a.slots (plan_of (world a.nand.now a.nor.now (state_in a.state.now)) a.load)) a.slots (counts_in a.counts.now) = let a = c.args in
    shed_due a.state.now a.counts.now a.nand.now a.nor.now a.slots a.time a.load c.requires.counting c.requires.due _ _ _ _ _ c.get_u32-oldest.ensures c.get_u32-current.ensures
    c.get_u16-count.ensures c.get_counts-c.ensures c.in-Some.ensures in
    let a = c.args in
    let k = c.requires.counting in
    let gone = went a.state.now a.nand.now a.nor.now _ _ _ a.slots a.time _ a.load load_is a.note _ _ c.unwrap.ensures c.append_on.ensures in
    plain_accepted a.state.now a.counts.now a.nand.now a.nor.now k.size k.counts_size a.slots a.time a.load a.note k.unbroken _
    (kept_lift _ a.slots a.load (counts_in a.counts.now) c.in-Some.left (sym shed))
    _ _ _ _ _ (rw c.in_ok-unwrap.was at gone) refl
    (c.put_counts.ensures
    ∙ ap counts_bytes (c.one_more-next.ensures ∙ ap (one_more _) (c.stored.ensures ∙ ap stored load_is)))
