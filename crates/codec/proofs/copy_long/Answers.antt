-- `codec::copy_long` meets its contract: the first i bytes of `src` stand in their place. Assumes nothing.
use mathlib.Core.Path.{◌≡◌, refl, ◌∙◌}
use lib.ListN.{length}
use lib.Seq.{paste-zero, paste-suc}
use native.Mathlib.Numerals.{add-one}
use Rattle.codec.proofs.Loops.{copy_done}
use native.Mathlib.Omega.{arith}
use Rattle.codec.proofs.copy_long.Goals as goal

pub loop-i-init : goal.loop-i-init
loop-i-init c = paste-zero c.args.s.now c.args.at c.args.src.now

pub loop-i-preserved : goal.loop-i-preserved
loop-i-preserved c =
    let a = c.args in
    rw (add-one, c.loop-i.invariant) (paste-suc a.s.now a.at a.src.now c.loop-i.i 0 (omega arith) (omega arith))

pub returns : goal.returns
returns c =
    let k : length c.args.src.now ≡ c.loop-i.i = omega arith in
    c.loop-i.invariant ∙ copy_done _ _ _ _ k
