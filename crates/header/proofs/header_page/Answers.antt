-- `header_page`: counts, span and pointers in a page of zeros.
use mathlib.Core.Path.{◌≡◌}
use lib.ListN.{length}
use Rattle.header.proofs.HeaderBytes.{page_put}
use native.Mathlib.Omega.{arith}
use Rattle.header.proofs.HeaderBytes.{serial_most}
use borrow.Author.Rules.{rules}
use Rattle.header.proofs.header_page.Goals as goal

pub put_pointers-requires : goal.put_pointers-requires
put_pointers-requires c =
    omega (arith, serial_most c.args.c.form)

pub returns : goal.returns
returns c =
    let four : length c.node_of-node.result ≡ 4 = search rules in
    page_put _ _ _ _ _ _ _ four c.level_of-level.ensures.0 c.node_of-node.ensures c.zeros-h.ensures
    c.put_counts.ensures
    c.put_span.ensures c.put_pointers.ensures
