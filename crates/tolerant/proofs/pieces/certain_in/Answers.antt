-- `tolerant::pieces::certain_in` meets its contract: those counted and those of the places left come to the whole.
use Rattle.std.proofs.Common.{◌≡◌, ℕ, [], ◌∷◌, sym, subst, ◌∙◌, rules, arith}
use Rattle.bitset.specs.Inner.Words.{members}
use Rattle.bitset.specs.Inner.Emptying.{places_left}
use Rattle.tolerant.proofs.Counting.{many_of, many_few, Sorts, sorts_over, sorts_read, sorts_in, sorts_out}
use Rattle.tolerant.proofs.pieces.certain_in.Goals as goal

pub loop-p-init : goal.loop-p-init
loop-p-init c =
    let all : places_left c.into_iter-p-iterator.result ≡ members c.args.set.words = search rules in
    record { below = rw all c.requires.below; sum = rw all (omega arith) }

pub returns : goal.returns
returns c =
    let over : places_left c.loop-p.p-iterator ≡ [] = search rules in
    sorts_over _ _ _ _ c.requires.recorded _ _ _ c.loop-p.invariant over

pub code_in-code-requires : goal.code_in-code-requires
code_in-code-requires c =
    let more : places_left c.loop-p.p-iterator ≡ c.in-Some.p ∷ places_left c.next.new.self = search rules in
    sorts_read _ _ _ _ c.requires.recorded _ _ _ c.loop-p.invariant _ _ more

pub overflow_add-n : goal.overflow_add-n
overflow_add-n c =
    let a = c.args in
    omega (arith, c.loop-p.invariant.sum, many_few a.lifts.now a.tail.now a.g a.e a.set)

pub loop-p-preserved-then-is_between : goal.loop-p-preserved-then-is_between
loop-p-preserved-then-is_between c =
    let more : places_left c.loop-p.p-iterator ≡ c.in-Some.p ∷ places_left c.next.new.self = search rules in
    sorts_in _ _ _ _ c.requires.recorded _ _ _ c.loop-p.invariant _ _ more _ c.code_in-code.ensures
    (sym c.is_between.ensures ∙ c.if-is_between.true)

pub loop-p-preserved : goal.loop-p-preserved
loop-p-preserved c =
    let more : places_left c.loop-p.p-iterator ≡ c.in-Some.p ∷ places_left c.next.new.self = search rules in
    sorts_out _ _ _ _ c.requires.recorded _ _ _ c.loop-p.invariant _ _ more _ c.code_in-code.ensures
    (sym c.is_between.ensures ∙ c.if-is_between.false)
