-- `loads_ok`: what is tested and what is left to test give what the whole gives.
use mathlib.Core.Path.{refl, sym, ap, ◌∙◌}
use mathlib.Core.Bool.{◌&&◌}
use Prim.Native.Nat.{◌-◌}
use lib.IntN.{pos}
use Rattle.codec.proofs.Truth.{and_true}
use Rattle.lift.specs.Limits.{load_ok}
use Rattle.bounds.proofs.Tests.{loads_all}
use Rattle.loads.specs.Signed.{loads_at}
use Rattle.loads.proofs.Signs.{read_back}
use Rattle.loads.proofs.Loads.{length_loads_at, load_among}
use Rattle.area_reads.proofs.Reading.{load_tested}
use native.Mathlib.Omega.{arith}
use borrow.Author.Rules.{rules}
use Rattle.area_reads.proofs.loads_ok.Goals as goal

pub loop-i-init : goal.loop-i-init
loop-i-init c = (search rules, refl)

pub loop-i-preserved : goal.loop-i-preserved
loop-i-preserved c =
    let b = c.args.b.now in
    let n = length_loads_at b 75 13 in
    let x = read_back _ _ c.load_at-x.type_inv c.load_at-x.ensures in
    let e = c.load_ok-good.ensures ∙ ap load_ok (x ∙ sym (load_among b 75 13 c.loop-i.i (pos 0) (omega arith))) in
    (search rules, load_tested (loads_at b 75 13) c.loop-i.i c.loop-i.good _ (omega arith) e ∙ c.loop-i.invariant.1)

pub returns : goal.returns
returns c =
    let all = loads_at c.args.b.now 75 13 in
    let n = length_loads_at c.args.b.now 75 13 in
    sym (and_true _) ∙ ap (λ t. c.loop-i.good && t) (loads_all all c.loop-i.i (omega arith)) ∙ c.loop-i.invariant.1
