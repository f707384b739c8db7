-- `loads::put_loads` meets its contract: in each turn one load more is written.
use Rattle.std.proofs.Common.{◌≡◌, refl, length, get_or, arith, rules}
use lib.IntN.{pos}
use mir.Syntax.{w32}
use mir.Val.{to_z, of_z}
use Rattle.loads.specs.Signed.{load_bytes}
use Rattle.loads.proofs.SideBySide.{put_none, put_next}
use Rattle.loads.proofs.Loads.{length_load}
use Rattle.loads.proofs.put_loads.Goals as goal

pub loop-i-init : goal.loop-i-init
loop-i-init c = put_none load_bytes 4 length_load _ c.args.at c.args.loads (omega arith)

pub loop-i-preserved : goal.loop-i-preserved
loop-i-preserved c =
    let n : length c.args.loads ≡ 13 = search rules in
    let e : to_z w32 (of_z w32 (get_or c.args.loads c.loop-i.i (pos 0))) ≡ get_or c.args.loads c.loop-i.i (pos 0) = search rules in
    put_next load_bytes 4 length_load _ _ _ c.args.at c.args.loads c.loop-i.i _ (pos 0) _ (omega arith) (omega arith) refl c.loop-i.invariant e
    c.put_load.ensures
