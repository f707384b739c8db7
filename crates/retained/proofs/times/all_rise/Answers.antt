-- `all_rise`: the closed segments, then the open one.
use mathlib.Core.Path.{ap, ◌∙◌}
use Prim.Native.Nat.{◌≤◌}
use lib.ListN.{length}
use Rattle.codec.proofs.Areas.{length_part}
use Rattle.retained.proofs.Rising.{all_read}
use native.Mathlib.Omega.{arith}
use borrow.Author.Rules.{rules}
use Rattle.retained.proofs.times.all_rise.Goals as goal

pub rise_in-r-requires : goal.rise_in-r-requires
rise_in-r-requires c =
    let l = ap length c.pages_of-lifts.ensures ∙ length_part c.args.nand.now _ 10240 (omega (arith, c.slot_of-slot.ensures.1, c.requires.nand_len)) in
    let b : 512 ≤ length c.args.page = search rules in
    (l, b, omega (arith, c.requires.nand_len), omega arith)

pub returns : goal.returns
returns c =
    all_read c.args.nand.now c.args.s _ _ _ _ _ _ c.rise_all-closed.ensures c.slot_of-slot.ensures.0 c.pages_of-lifts.ensures c.rise_in-r.ensures
