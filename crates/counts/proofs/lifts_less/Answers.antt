-- `counts::lifts_less` meets its contract: the counts so far with the lifts that are left give what the first counts give with all of them.
use mathlib.Core.Path.{◌≡◌, refl, ap, ◌∙◌}
use Prim.Native.Nat.{ℕ, ◌*◌, ◌-◌, ◌<◌}
use Rattle.lift.specs.Limits.{load_of}
use Rattle.lift.specs.Record.{code_at}
use Rattle.bloom.specs.Pages.{each}
use Rattle.plate.proofs.Bands.{plate_small}
use Rattle.counts.specs.Counts.{counted_down}
use Rattle.counts.proofs.Downs.{down_stops, down_goes_on, some_counted, down_over}
use native.Mathlib.Omega.{arith}
use mathlib.Core.Bool.{not}
use Rattle.counts.proofs.lifts_less.Goals as goal

pub loop-p-init : goal.loop-p-init
loop-p-init c =
    let a = c.args in
    let z : a.count - 0 ≡ a.count = omega arith in
    ap (λ (n : ℕ). counted_down a.counts (each (λ q. code_at a.lifts.now (q * 32)) 0 n)) z

pub record_code-code-requires : goal.record_code-code-requires
record_code-code-requires c = omega (arith, c.requires.0, c.requires.1)

pub bounds-c-i : goal.bounds-c-i
bounds-c-i c =
    let small : c.plate_of_code-i.result < 22 = rw c.plate_of_code-i.ensures (omega (arith, plate_small (load_of c.record_code-code.result))) in
    omega (arith, small)

pub returns-then-not-can_go : goal.returns-then-not-can_go
returns-then-not-can_go c =
    let a = c.args in
    down_stops (λ q. code_at a.lifts.now (q * 32)) a.count c.loop-p.p c.loop-p.c _ _ _ c.record_code-code.ensures c.plate_of_code-i.ensures refl (omega arith)
    c.code_ok-ok.result c.code_ok-ok.ensures (ap not c.if-not-can_go.true) ∙ c.loop-p.invariant

pub overflow_sub-c : goal.overflow_sub-c
overflow_sub-c c = some_counted _ c.code_ok-ok.result (ap not c.if-not-can_go.false)

pub bounds-c-i-in-loop-p : goal.bounds-c-i-in-loop-p
bounds-c-i-in-loop-p c =
    let small : c.plate_of_code-i.result < 22 = rw c.plate_of_code-i.ensures (omega (arith, plate_small (load_of c.record_code-code.result))) in
    omega (arith, small)

pub loop-p-preserved : goal.loop-p-preserved
loop-p-preserved c =
    let a = c.args in
    down_goes_on (λ q. code_at a.lifts.now (q * 32)) a.count c.loop-p.p c.loop-p.c _ _ _ c.record_code-code.ensures c.plate_of_code-i.ensures refl (omega arith)
    c.code_ok-ok.result c.code_ok-ok.ensures (ap not c.if-not-can_go.false) ∙ c.loop-p.invariant

pub returns : goal.returns
returns c =
    let a = c.args in
    down_over (λ q. code_at a.lifts.now (q * 32)) a.count c.loop-p.p c.loop-p.c (omega arith) ∙ c.loop-p.invariant
