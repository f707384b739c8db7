-- `import::import_lines` meets its contract: what is left to import gives what the whole does.
use Rattle.std.specs.Prelude.{Some}
use mathlib.Core.Path.{refl, ap, ◌∙◌}
use Prim.Native.Nat.{◌^◌, ◌<◌}
use native.Mathlib.Omega.{arith}
use lib.ListN.{length}
use Rattle.grounds.proofs.Numbers.{refused}
use Rattle.store.specs.Calls.{Outcome}
use Rattle.store.specs.Inner.Pieces.{bounds_ground}
use Rattle.import.proofs.Folding.{begins, all_in, bad_here, ends_here, goes_in}
use Rattle.import.proofs.Appends.{append_keeps}
use borrow.Author.Rules.{rules}
use Rattle.import.proofs.import_lines.Goals.{in-Ok, in-Err+else-is_refused}
use Rattle.import.proofs.import_lines.Goals as goal

pub loop-at-init : goal.loop-at-init
loop-at-init c = (begins _ _ _ _ _ _ c.requires.0 c.requires.1, refl, refl)

pub returns-in_default : goal.returns-in_default
unfolding bounds_ground
returns-in_default c =
    rw c.stopped.ensures
    (bad_here _ _ _ _ _ _ _ _ c.loop-at.invariant.0 c.loop-at-test.true c.in_default.ensures _
    (rw c.ground-first.ensures at c.bad_record.ensures))

pub returns-then-is_refused : goal.returns-then-is_refused
returns-then-is_refused c =
    let e = c.in-Err.ensures in
    rw c.stopped-then-is_refused.ensures
    (ends_here _ _ _ _ _ _ _ _ c.loop-at.invariant.0 c.loop-at-test.true (Some _) c.in-Some.ensures _ _
    (ap (λ (o : Outcome). o.number) e) (ap (λ (o : Outcome). o.world) e) (λ t f. append_keeps _ _ _ _ _ f) (refused c.in-Err.ground))

pub overflow_add-line : goal.overflow_add-line
overflow_add-line c =
    let text-small : length c.args.text.now < 2 ^ 64 = search rules in
    omega (arith, text-small, c.loop-at.invariant.0.few, c.loop-at-test.true)

pub loop-at-preserved : goal.loop-at-preserved
loop-at-preserved c = elim c.match-append_line.branch [
  | in-Ok w ↦
      let e = w.in-Ok.ensures in rw w.state-is (
        goes_in _ _ _ _ _ _ _ _ c.loop-at.invariant.0 c.loop-at-test.true _ c.in-Some.ensures _ _
            (ap (λ (o : Outcome). o.number) e) (ap (λ (o : Outcome). o.world) e) refl,
        c.append_line.auto.nand ∙ c.loop-at.invariant.1,
        c.append_line.auto.nor ∙ c.loop-at.invariant.2,
      )
  | in-Err+else-is_refused w ↦ absurd (refused w.in-Err.ground (omega (arith, w.number-is_refused.ensures.is, w.if-is_refused.false)))
]

pub returns : goal.returns
returns c = all_in _ _ _ _ _ _ _ _ c.loop-at.invariant.0 c.loop-at-test.false
