-- `joining::join_set` meets its contract: the lifts gone through and those of the places left come to all.
use Rattle.std.proofs.Common.{◌≡◌, [], ◌∷◌, length, refl, ap, rules, arith}
use Rattle.bitset.specs.Inner.Words.{members}
use Rattle.bitset.specs.Inner.Emptying.{places_left}
use Rattle.bitset.proofs.Set.{length_members}
use Rattle.visit.proofs.Emptying.{recorded_at}
use Rattle.joining.proofs.Lifts.{room_kept, set_below, set_over, set_more}
use Rattle.joining.proofs.join_set.Goals as goal

pub loop-p-init : goal.loop-p-init
loop-p-init c =
    let all : places_left c.into_iter-p-iterator.result ≡ members c.args.set.words = search rules in
    rw all (record { leads = refl; readable = c.requires.readable_from; below = c.requires.recorded.1; few = omega arith; area_long = refl; free_long = refl })

pub shape_of-area : goal.shape_of-area
shape_of-area c = c.loop-p.invariant.area_long

pub shape_of-free : goal.shape_of-free
shape_of-free c = c.loop-p.invariant.free_long

pub returns : goal.returns
returns c =
    let over : places_left c.loop-p.p-iterator ≡ [] = search rules in
    set_over _ _ _ _ _ _ _ _ _ _ _ _ _ _ _ _ c.loop-p.invariant over

pub join_lift-j-requires : goal.join_lift-j-requires
join_lift-j-requires c =
    let i = c.loop-p.invariant in
    let more : places_left c.loop-p.p-iterator ≡ c.in-Some.p ∷ places_left c.next.new.self = search rules in
    let less = ap length more in
    let most = length_members c.args.set.words in
    record {
      p_in_bounds = recorded_at _ _ c.args.at _ c.requires.recorded.0 (set_below _ _ _ _ _ _ _ _ _ _ _ _ _ _ _ _ i _ _ more);
      room = (room_kept _ _ _ _ c.requires.room.0 i.free_long, c.requires.room.1);
      readable_from = i.readable;
      rows_in_bounds = (omega (arith, i.area_long, c.requires.rows_in_bounds.0), omega (arith, i.few, less, most, c.requires.rows_in_bounds.1));
    }

pub loop-p-preserved : goal.loop-p-preserved
loop-p-preserved c =
    let more : places_left c.loop-p.p-iterator ≡ c.in-Some.p ∷ places_left c.next.new.self = search rules in
    let o = c.join_lift-j in
    set_more _ _ _ _ _ _ _ _ _ _ _ _ _ _ _ _ c.loop-p.invariant _ _ more _ _ _ o.auto.area o.auto.free o.ensures
