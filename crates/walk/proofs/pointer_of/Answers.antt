-- `walk::pointer_of` meets its contract.
use mathlib.Core.Path.{◌≡◌}
use lib.ListN.{length}
use Rattle.skiplist.specs.Skip.{none}
use Rattle.walk.proofs.Hops.{same_default}
use borrow.Author.Rules.{rules}
use native.Mathlib.Omega.{arith}
use Rattle.walk.proofs.pointer_of.Goals as goal

pub returns : goal.returns
returns c =
    let four : length c.args.pointers ≡ 4 = search rules in
    same_default c.args.pointers c.args.k _ none (omega arith)
