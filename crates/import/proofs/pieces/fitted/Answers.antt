-- `import::pieces::fitted` meets its contract: within the limits it is the load, past them 100,001.
use mathlib.Core.Path.{◌≡◌, refl, sym, ap, ◌∙◌}
use mathlib.Core.Bool.{true, false, false≢true}
use lib.IntN.{ℤ}
use mir.Syntax.{w32, w64}
use mir.Val.{to_z, of_z}
use mir.ValLaws.{to_z-of_z}
use Rattle.lift.specs.Limits.{load_ok}
use Rattle.import.proofs.Appends.{load_fits}
use Rattle.import.proofs.pieces.fitted.Goals as goal

past : (c : goal.Then-not-load) → load_ok c.args.load ≡ false
past c =
    let load_is : to_z w64 (of_z w64 c.args.load) ≡ c.args.load = to_z-of_z w64 c.args.load c.ranges.load in
    ap load_ok (sym load_is) ∙ c.if-not-load.true

within : (c : goal.Else-not-load) → load_ok c.args.load ≡ true
within c =
    let load_is : to_z w64 (of_z w64 c.args.load) ≡ c.args.load = to_z-of_z w64 c.args.load c.ranges.load in
    ap load_ok (sym load_is) ∙ c.if-not-load.false

pub returns-then-not-load : goal.returns-then-not-load
returns-then-not-load c = (λ t. absurd (false≢true (sym (past c) ∙ t)), λ f. refl)

pub overflow_cast-result : goal.overflow_cast-result
overflow_cast-result c =
    let load_is : to_z w64 (of_z w64 c.args.load) ≡ c.args.load = to_z-of_z w64 c.args.load c.ranges.load in
    rw load_is (load_fits c.args.load (within c))

pub returns : goal.returns
returns c =
    let load_is : to_z w64 (of_z w64 c.args.load) ≡ c.args.load = to_z-of_z w64 c.args.load c.ranges.load in (
      λ t. ap (λ (z : ℤ). to_z w32 (of_z w32 z)) load_is ∙ to_z-of_z w32 c.args.load (load_fits c.args.load (within c)),
      λ f. absurd (false≢true (sym f ∙ within c)),
    )
