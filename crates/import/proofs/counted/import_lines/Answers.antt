-- `import::counted::import_lines` meets its contract: what is left to import gives what the whole does.
use Rattle.std.specs.Prelude.{Some}
use mathlib.Core.Path.{refl, ap, ◌∙◌}
use Prim.Native.Nat.{◌^◌, ◌<◌}
use native.Mathlib.Omega.{arith}
use lib.ListN.{length}
use Rattle.grounds.proofs.Numbers.{refused}
use Rattle.keeping.specs.Keeping.{Counted}
use Rattle.import.specs.Call.{store_of}
use Rattle.import.proofs.Folding.{begins, all_in, bad_here, ends_here, goes_in}
use Rattle.import.proofs.Appends.{kept_append_keeps}
use borrow.Author.Rules.{rules}
use Rattle.import.proofs.counted.import_lines.Goals as goal

pub loop-at-init : goal.loop-at-init
loop-at-init c = (begins _ _ _ _ _ _ c.requires.0 c.requires.1, refl, refl)

pub returns-in_default : goal.returns-in_default
returns-in_default c =
    rw c.stopped.ensures
    (bad_here _ _ _ _ _ _ _ _ c.loop-at.invariant.0 c.loop-at-test.true c.in_default.ensures _
    (rw c.first_grounds-first.ensures at c.bad_record.ensures))

pub returns-in-Err : goal.returns-in-Err
returns-in-Err c =
    let e = c.in-Err.ensures in
    rw c.stopped-in-Err.ensures
    (ends_here _ _ _ _ _ _ _ _ c.loop-at.invariant.0 c.loop-at-test.true (Some _) c.in-Some.ensures _ _
    (ap (λ (o : Counted). o.number) e) (ap (λ (o : Counted). store_of o) e) (λ t f. kept_append_keeps _ _ _ _ _ f) (refused c.in-Err.ground))

pub overflow_add-line : goal.overflow_add-line
overflow_add-line c =
    let text-small : length c.args.text.now < 2 ^ 64 = search rules in
    omega (arith, text-small, c.loop-at.invariant.0.few, c.loop-at-test.true)

pub loop-at-preserved : goal.loop-at-preserved
loop-at-preserved c =
    let e = c.in-Ok.ensures in (
      goes_in _ _ _ _ _ _ _ _ c.loop-at.invariant.0 c.loop-at-test.true _ c.in-Some.ensures _ _
          (ap (λ (o : Counted). o.number) e) (ap (λ (o : Counted). store_of o) e) refl,
      c.append_line.auto.nand ∙ c.loop-at.invariant.1,
      c.append_line.auto.nor ∙ c.loop-at.invariant.2,
    )

pub returns : goal.returns
returns c = all_in _ _ _ _ _ _ _ _ c.loop-at.invariant.0 c.loop-at-test.false
