-- `area_import::import_lines` meets its contract: what is left to import gives what the whole does.
use Rattle.std.specs.Prelude.{Some}
use mathlib.Core.Path.{refl, ap, ◌∙◌}
use Prim.Native.Nat.{◌^◌, ◌<◌}
use native.Mathlib.Omega.{arith}
use lib.ListN.{length}
use Rattle.grounds.proofs.Numbers.{refused}
use Rattle.import.proofs.Folding.{begins, all_in, bad_here, ends_here, goes_in}
use Rattle.store.specs.Inner.Pieces.{bounds_ground}
use Rattle.areas.specs.Areas.{Left, Lent, lent}
use Rattle.area_import.proofs.Left.{append_in_keeps}
use borrow.Author.Rules.{rules}
use Rattle.area_import.proofs.import_lines.Goals as goal

-- what a line leaves, by its parts
abbrev left : Left → Lent
left l = lent l.state l.nand l.nor

pub loop-at-init : goal.loop-at-init
loop-at-init c = (begins _ _ _ _ _ _ c.requires.1 c.requires.2, refl, refl, refl)

pub append_line-requires : goal.append_line-requires
append_line-requires c = c.loop-at.invariant.1 ∙ c.requires.0

pub returns-in_default : goal.returns-in_default
unfolding bounds_ground
returns-in_default c =
    bad_here _ _ _ _ _ _ _ _ c.loop-at.invariant.0 c.loop-at-test.true c.in_default.ensures _ (rw c.ground-first.ensures at c.bad_record-ground.ensures)

pub returns-in-Err : goal.returns-in-Err
returns-in-Err c =
    let e = c.in-Err.ensures in
    ends_here _ _ _ _ _ _ _ _ c.loop-at.invariant.0 c.loop-at-test.true (Some _) c.in-Some.ensures _ _
    (ap (λ (o : Left). o.number) e) (ap left e) (λ t f. append_in_keeps _ _ t f) (refused c.in-Err.ground)

pub overflow_add-line : goal.overflow_add-line
overflow_add-line c =
    let text-small : length c.args.text.now < 2 ^ 64 = search rules in
    omega (arith, text-small, c.loop-at.invariant.0.few, c.loop-at-test.true)

pub loop-at-preserved : goal.loop-at-preserved
loop-at-preserved c =
    let e = c.in_default-append_line.ensures in (
      goes_in _ _ _ _ _ _ _ _ c.loop-at.invariant.0 c.loop-at-test.true _ c.in-Some.ensures _ _
          (ap (λ (o : Left). o.number) e) (ap left e) refl,
      c.append_line.auto.state ∙ c.loop-at.invariant.1,
      c.append_line.auto.nand ∙ c.loop-at.invariant.2,
      c.append_line.auto.nor ∙ c.loop-at.invariant.3,
    )

pub returns : goal.returns
returns c = all_in _ _ _ _ _ _ _ _ c.loop-at.invariant.0 c.loop-at-test.false
