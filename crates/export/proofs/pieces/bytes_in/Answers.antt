-- `export::pieces::bytes_in` meets its contract: bytes counted and those of the places left come to the whole.
use Rattle.std.proofs.Common.{◌≡◌, [], ◌∷◌, rules, arith}
use Rattle.bitset.specs.Inner.Words.{members}
use Rattle.bitset.specs.Inner.Emptying.{places_left}
use Rattle.bitset.proofs.Set.{length_members}
use Rattle.export.proofs.Sizing.{sums_over, place_read, sums_more}
use Rattle.export.proofs.pieces.bytes_in.Goals as goal

pub loop-p-init : goal.loop-p-init
loop-p-init c =
    let all : places_left c.into_iter-p-iterator.result ≡ members c.args.set.words = search rules in
    rw all (record { below = c.requires.below; sum = omega arith; room = omega (arith, length_members c.args.set.words) })

pub returns : goal.returns
returns c =
    let over : places_left c.loop-p.p-iterator ≡ [] = search rules in
    sums_over _ _ _ c.requires.recorded _ _ _ c.loop-p.invariant over

pub time_in-time-requires : goal.time_in-time-requires
time_in-time-requires c =
    let more : places_left c.loop-p.p-iterator ≡ c.in-Some.p ∷ places_left c.next.new.self = search rules in
    place_read _ _ _ c.requires.recorded _ _ _ c.loop-p.invariant _ _ more

pub code_in-code-requires : goal.code_in-code-requires
code_in-code-requires c =
    let more : places_left c.loop-p.p-iterator ≡ c.in-Some.p ∷ places_left c.next.new.self = search rules in
    place_read _ _ _ c.requires.recorded _ _ _ c.loop-p.invariant _ _ more

pub member_in-member-requires : goal.member_in-member-requires
member_in-member-requires c =
    let more : places_left c.loop-p.p-iterator ≡ c.in-Some.p ∷ places_left c.next.new.self = search rules in
    place_read _ _ _ c.requires.recorded _ _ _ c.loop-p.invariant _ _ more

pub overflow_add-n : goal.overflow_add-n
overflow_add-n c =
    let more : places_left c.loop-p.p-iterator ≡ c.in-Some.p ∷ places_left c.next.new.self = search rules in
    let room = rw more at c.loop-p.invariant.room in
    omega (arith, room, c.line_bytes-n.ensures.1)

pub loop-p-preserved : goal.loop-p-preserved
loop-p-preserved c =
    let more : places_left c.loop-p.p-iterator ≡ c.in-Some.p ∷ places_left c.next.new.self = search rules in
    sums_more _ _ _ c.requires.recorded _ _ _ c.loop-p.invariant _ _ more _ _ _ _
    c.time_in-time.ensures c.code_in-code.ensures c.member_in-member.ensures
    c.line_bytes-n.ensures.0 c.line_bytes-n.ensures.1
