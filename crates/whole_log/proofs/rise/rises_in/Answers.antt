-- `whole_log::rise::rises_in` meets its contract: the times behind and those that are left come to the whole.
use Rattle.std.proofs.Common.{◌≡◌, [], ◌∷◌, rules}
use Rattle.bitset.specs.Inner.Words.{members}
use Rattle.bitset.specs.Inner.Emptying.{places_left}
use Rattle.whole_log.proofs.Rising.{climb_over, climb_read, climb_on}
use Rattle.whole_log.proofs.rise.rises_in.Goals as goal

pub loop-p-init : goal.loop-p-init
loop-p-init c =
    let all : places_left c.into_iter-p-iterator.result ≡ members c.args.set.words = search rules in
    record { below = rw all c.requires; leads = rw all; rises = rw all (λ r. r) }

pub returns : goal.returns
returns c =
    let over : places_left c.loop-p.p-iterator ≡ [] = search rules in
    climb_over _ _ _ _ _ c.loop-p.invariant over

pub time-t-requires : goal.time-t-requires
time-t-requires c =
    let more : places_left c.loop-p.p-iterator ≡ c.in-Some.p ∷ places_left c.next.new.self = search rules in
    climb_read _ _ _ _ _ c.loop-p.invariant _ _ more

pub loop-p-preserved : goal.loop-p-preserved
loop-p-preserved c =
    let more : places_left c.loop-p.p-iterator ≡ c.in-Some.p ∷ places_left c.next.new.self = search rules in
    climb_on _ _ _ _ _ c.loop-p.invariant _ _ more _ c.time-t.ensures c.if-has_fallen.false
