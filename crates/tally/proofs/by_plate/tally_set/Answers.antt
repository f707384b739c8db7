-- `tally::by_plate::tally_set` meets its contract: the lifts counted and those of the places left come to all.
use Rattle.std.proofs.Common.{◌≡◌, ℕ, ◌+◌, [], ◌∷◌, ap, get_or, set, rules, arith}
use Rattle.bitset.specs.Inner.Words.{members}
use Rattle.bitset.specs.Inner.Emptying.{places_left}
use Rattle.lift.specs.Limits.{load_of}
use Rattle.plate.proofs.Bands.{plate_small}
use Rattle.visit.proofs.Emptying.{recorded_at}
use Rattle.tally.proofs.Tallies.{set_first, set_over, set_below, set_more}
use Rattle.tally.proofs.by_plate.tally_set.Goals as goal

pub loop-p-init : goal.loop-p-init
loop-p-init c =
    let all : places_left c.into_iter-p-iterator.result ≡ members c.args.set.words = search rules in
    rw all (set_first _ _ _ _ c.requires.below c.requires.none_above)

pub returns : goal.returns
returns c =
    let over : places_left c.loop-p.p-iterator ≡ [] = search rules in
    set_over _ _ _ _ _ c.loop-p.invariant over

pub code_in-code-requires : goal.code_in-code-requires
code_in-code-requires c =
    let more : places_left c.loop-p.p-iterator ≡ c.in-Some.p ∷ places_left c.next.new.self = search rules in
    recorded_at _ _ c.args.g _ c.requires.recorded (set_below _ _ _ _ _ c.loop-p.invariant _ _ more)

pub bounds-n-i : goal.bounds-n-i
bounds-n-i c =
    rw c.plate_of_code-i.ensures (omega (arith, plate_small (load_of c.code_in-code.result)))

pub bounds-n-i-in-loop-p : goal.bounds-n-i-in-loop-p
bounds-n-i-in-loop-p c =
    rw c.plate_of_code-i.ensures (omega (arith, plate_small (load_of c.code_in-code.result)))

pub overflow_add-n : goal.overflow_add-n
overflow_add-n c =
    record { fits = omega (arith, c.loop-p.invariant.room c.plate_of_code-i.result) }

pub loop-p-preserved : goal.loop-p-preserved
loop-p-preserved c =
    let more : places_left c.loop-p.p-iterator ≡ c.in-Some.p ∷ places_left c.next.new.self = search rules in
    let n = c.loop-p.n in
    set_more _ _ _ _ _ c.loop-p.invariant _ _ more _
    c.code_in-code.ensures _ (ap (λ (i : ℕ). set n i (get_or n i 0 + 1)) c.plate_of_code-i.ensures)
