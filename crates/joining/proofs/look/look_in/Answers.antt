-- `joining::look::look_in` meets its contract: each turn leads to the same end.
use Rattle.std.proofs.Common.{◌≡◌, [], ◌∷◌, sym, ◌∙◌, rules}
use Rattle.bitset.specs.Inner.Words.{members}
use Rattle.bitset.specs.Inner.Emptying.{places_left}
use Rattle.visit.proofs.Emptying.{recorded_at}
use Rattle.joining.proofs.Turns.{look_begun, look_through, next_left, look_other, look_behind, look_ahead, look_joins, look_dropped, look_late}
use Rattle.joining.proofs.look.look_in.Goals as goal

pub loop-p-init : goal.loop-p-init
loop-p-init c =
    let all : places_left c.into_iter-p-iterator.result ≡ members c.args.set.words = search rules in
    rw all (look_begun _ _ c.args.set, c.requires.below)

pub returns : goal.returns
returns c =
    let over : places_left c.loop-p.p-iterator ≡ [] = search rules in
    look_through _ _ _ _ _ _ _ c.loop-p.invariant.0 over

pub fit_of-requires : goal.fit_of-requires
fit_of-requires c =
    let more : places_left c.loop-p.p-iterator ≡ c.in-Some.p ∷ places_left c.next.new.self = search rules in
    recorded_at _ _ c.args.g _ c.requires.recorded (rw more at c.loop-p.invariant.1).0

pub remove-without-requires : goal.remove-without-requires
remove-without-requires c =
    let more : places_left c.loop-p.p-iterator ≡ c.in-Some.p ∷ places_left c.next.new.self = search rules in
    next_left _ _ _ _ _ _ _ c.loop-p.invariant.0 _ _ more

pub returns-in-Joins : goal.returns-in-Joins
returns-in-Joins c =
    let more : places_left c.loop-p.p-iterator ≡ c.in-Some.p ∷ places_left c.next.new.self = search rules in
    look_joins _ _ _ _ _ _ _ c.loop-p.invariant.0 _ _ more _ c.remove-without.ensures (sym c.fit_of.ensures ∙ c.in-Joins.is)

pub returns-then-s : goal.returns-then-s
returns-then-s c =
    let more : places_left c.loop-p.p-iterator ≡ c.in-Some.p ∷ places_left c.next.new.self = search rules in
    look_late _ _ _ _ _ _ _ c.loop-p.invariant.0 _ _ more c.if-s.true (sym c.fit_of.ensures ∙ c.in-Ahead.is)

pub remove-left-requires : goal.remove-left-requires
remove-left-requires c =
    let more : places_left c.loop-p.p-iterator ≡ c.in-Some.p ∷ places_left c.next.new.self = search rules in
    next_left _ _ _ _ _ _ _ c.loop-p.invariant.0 _ _ more

pub loop-p-preserved-in-Other : goal.loop-p-preserved-in-Other
loop-p-preserved-in-Other c =
    let more : places_left c.loop-p.p-iterator ≡ c.in-Some.p ∷ places_left c.next.new.self = search rules in (
      look_other _ _ _ _ _ _ _ c.loop-p.invariant.0 _ _ more (sym c.fit_of.ensures ∙ c.in-Other.is),
      (rw more at c.loop-p.invariant.1).1,
    )

pub loop-p-preserved-else-s : goal.loop-p-preserved-else-s
loop-p-preserved-else-s c =
    let more : places_left c.loop-p.p-iterator ≡ c.in-Some.p ∷ places_left c.next.new.self = search rules in (
      look_ahead _ _ _ _ _ _ _ c.loop-p.invariant.0 _ _ more c.if-s.false (sym c.fit_of.ensures ∙ c.in-Ahead.is),
      (rw more at c.loop-p.invariant.1).1,
    )

pub loop-p-preserved-then-s-2 : goal.loop-p-preserved-then-s-2
loop-p-preserved-then-s-2 c =
    let more : places_left c.loop-p.p-iterator ≡ c.in-Some.p ∷ places_left c.next.new.self = search rules in (
      look_dropped _ _ _ _ _ _ _ c.loop-p.invariant.0 _ _ more _ c.remove-left.ensures c.if-s-2.true
          (sym c.fit_of.ensures ∙ c.in-Behind.is),
      (rw more at c.loop-p.invariant.1).1,
    )

pub loop-p-preserved : goal.loop-p-preserved
loop-p-preserved c =
    let more : places_left c.loop-p.p-iterator ≡ c.in-Some.p ∷ places_left c.next.new.self = search rules in (
      look_behind _ _ _ _ _ _ _ c.loop-p.invariant.0 _ _ more c.if-s-2.false (sym c.fit_of.ensures ∙ c.in-Behind.is),
      (rw more at c.loop-p.invariant.1).1,
    )
