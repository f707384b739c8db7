-- `node_of` meets its contract. Assumes nothing.
use Rattle.std.proofs.Common.{◌≡◌, arith, length, rules}
use Rattle.std.proofs.lemmas.List.{drop_all, append-nil}
use borrow.Rule.Slice.PartMut.{mid_len, Post-is}
use Rattle.skiplist.specs.Skip.{node_of}
use Rattle.skiplist.proofs.node_of.Goals as goal

pub returns : goal.returns
unfolding node_of
returns c =
    let four : length c.args.heads ≡ 4 = search rules in
    let l = mid_len c.args.level 4 c.args.heads (omega arith) in
    rw (c.fill.ensures.after (λ y e. e), l, Post-is c.args.level 4 c.args.heads c.requires, drop_all 4 c.args.heads (omega arith), append-nil)
