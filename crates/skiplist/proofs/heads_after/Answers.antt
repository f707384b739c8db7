-- `heads_after` meets its contract. Assumes nothing.
use Rattle.std.proofs.Common.{◌≤◌, arith, length}
use lib.Seq.{length-take-le}
use Rattle.skiplist.specs.Skip.{heads_after}
use Rattle.skiplist.proofs.heads_after.Goals as goal

pub returns : goal.returns
unfolding heads_after
returns c =
    let few : c.args.level ≤ length c.args.heads = omega arith in
    rw (c.fill.ensures.after (λ y e. e), length-take-le c.args.level c.args.heads few)
