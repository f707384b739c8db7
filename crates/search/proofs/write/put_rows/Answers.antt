-- `search::write::put_rows` meets its contract: the rows written and those of the places left come to all.
use Rattle.std.proofs.Common.{◌≡◌, ◌+◌, [], ◌∷◌, rules}
use Rattle.visit.proofs.Emptying.{recorded_at}
use Rattle.bitset.specs.Inner.Words.{members}
use Rattle.bitset.specs.Inner.Emptying.{places_left}
use Rattle.search.proofs.Written.{puts_begin, puts_over, puts_below, puts_room, puts_more}
use Rattle.search.proofs.write.put_rows.Goals as goal

pub loop-i-init : goal.loop-i-init
loop-i-init c =
    let all : places_left c.into_iter-i-iterator.result.iter ≡ members c.args.set.words = search rules in
    let first : c.args.row + c.into_iter-i-iterator.result.count ≡ c.args.row = search rules in
    rw (all, first) (puts_begin _ _ _ _ _ _ c.requires.below c.requires.record_width_in_bounds)

pub put_row-requires : goal.put_row-requires
put_row-requires c =
    let more : places_left c.loop-i.i-iterator.iter ≡ c.in-Some.p ∷ places_left c.next.new.self.iter = search rules in
    let at : c.in-Some.i ≡ c.loop-i.i-iterator.count = search rules in
    let below = puts_below _ _ _ c.requires.recorded _ _ _ _ _ c.loop-i.invariant _ _ more in
    record {
      record_width_in_bounds = recorded_at _ _ c.args.g _ c.requires.recorded below;
      record_width_in_bounds_2 = rw at (puts_room _ _ _ c.requires.recorded _ _ _ _ _ c.loop-i.invariant _ _ more);
    }

pub loop-i-preserved : goal.loop-i-preserved
loop-i-preserved c =
    let more : places_left c.loop-i.i-iterator.iter ≡ c.in-Some.p ∷ places_left c.next.new.self.iter = search rules in
    let at : c.in-Some.i ≡ c.loop-i.i-iterator.count = search rules in
    let on : c.args.row + c.next.new.self.count ≡ c.args.row + c.loop-i.i-iterator.count + 1 = search rules in
    rw on (puts_more _ _ _ c.requires.recorded _ _ _ _ _ c.loop-i.invariant _ _ more _ (rw at at c.put_row.ensures))

pub returns : goal.returns
returns c =
    let over : places_left c.loop-i.i-iterator.iter ≡ [] = search rules in
    puts_over _ _ _ c.requires.recorded _ _ _ _ _ c.loop-i.invariant over
