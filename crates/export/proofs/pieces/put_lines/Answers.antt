-- `export::pieces::put_lines` meets its contract: lines written and those of the places left are the whole.
use Rattle.std.proofs.Common.{◌≡◌, [], ◌∷◌, ◌++◌, refl, rules}
use Rattle.bitset.specs.Inner.Words.{members}
use Rattle.last_place.specs.Inner.Last.{places_below}
use Rattle.export.proofs.Writing.{puts_none, puts_length, puts_over, last_read, line_room, puts_more}
use Rattle.export.proofs.pieces.put_lines.Goals as goal

pub loop-p-init : goal.loop-p-init
loop-p-init c =
    let all : places_below c.into_iter-p-iterator.result ≡ members c.args.set.words = search rules in
    rw all (puts_none _ _ _ _ _ _ _ c.requires.below refl)

pub shape_of-area : goal.shape_of-area
shape_of-area c = puts_length _ _ _ _ _ _ c.requires.words_len_bound.1 _ _ _ c.loop-p.invariant

pub returns : goal.returns
returns c =
    let over : places_below c.loop-p.p-iterator ≡ [] = search rules in
    puts_over _ _ _ _ _ _ c.requires.recorded _ _ _ c.loop-p.invariant over

pub time_in-time-requires : goal.time_in-time-requires
time_in-time-requires c =
    let more : places_below c.loop-p.p-iterator ≡ places_below c.next.new.self ++ (c.in-Some.p ∷ []) = search rules in
    last_read _ _ _ _ _ _ c.requires.recorded _ _ _ c.loop-p.invariant _ _ more

pub code_in-code-requires : goal.code_in-code-requires
code_in-code-requires c =
    let more : places_below c.loop-p.p-iterator ≡ places_below c.next.new.self ++ (c.in-Some.p ∷ []) = search rules in
    last_read _ _ _ _ _ _ c.requires.recorded _ _ _ c.loop-p.invariant _ _ more

pub member_in-member-requires : goal.member_in-member-requires
member_in-member-requires c =
    let more : places_below c.loop-p.p-iterator ≡ places_below c.next.new.self ++ (c.in-Some.p ∷ []) = search rules in
    last_read _ _ _ _ _ _ c.requires.recorded _ _ _ c.loop-p.invariant _ _ more

pub put_line-to-requires : goal.put_line-to-requires
put_line-to-requires c =
    let more : places_below c.loop-p.p-iterator ≡ places_below c.next.new.self ++ (c.in-Some.p ∷ []) = search rules in
    line_room _ _ _ _ _ _ c.requires.recorded _ _ _ c.loop-p.invariant _ _ more _ _ _
    c.time_in-time.ensures c.code_in-code.ensures c.member_in-member.ensures c.requires.words_len_bound.0
    c.requires.words_len_bound.1

pub loop-p-preserved : goal.loop-p-preserved
loop-p-preserved c =
    let more : places_below c.loop-p.p-iterator ≡ places_below c.next.new.self ++ (c.in-Some.p ∷ []) = search rules in
    puts_more _ _ _ _ _ _ c.requires.recorded _ _ _ c.loop-p.invariant _ _ more _ _ _
    c.time_in-time.ensures c.code_in-code.ensures c.member_in-member.ensures c.requires.words_len_bound.1 _ _
    c.put_line-to.ensures
