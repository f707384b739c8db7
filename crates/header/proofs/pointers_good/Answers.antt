-- `pointers_good`: four pointers, one after the other.
use mathlib.Core.Path.{◌≡◌}
use lib.ListN.{length}
use Rattle.header.proofs.Tests.{four_pointers}
use borrow.Author.Rules.{rules}
use Rattle.header.proofs.pointers_good.Goals as goal

pub returns : goal.returns
returns c =
    let four : length c.args.p ≡ 4 = search rules in
    four_pointers _ c.args.p _ _ _ _ _ four
    c.pointer_good-a.ensures
    c.pointer_good-b.ensures
    c.pointer_good-c.ensures c.pointer_good-d.ensures
