-- `state_bytes::pieces::put_around` meets its contract: five groups of fields around the oldest live time and the page buffer.
use mathlib.Core.Path.{◌≡◌}
use lib.ListN.{length}
use Rattle.state_bytes.proofs.Writing.{around_put}
use borrow.Author.Rules.{rules}
use Rattle.state_bytes.proofs.pieces.put_around.Goals as goal

pub returns : goal.returns
returns c =
    let lh : length c.args.heads ≡ 4 = search rules in
    let ll : length c.args.loads ≡ 13 = search rules in
    let lb : length c.args.section ≡ 128 = search rules in
    around_put _ _ _ _ _ _ _ _ _ c.args.c c.args.heads c.args.loads c.args.section c.args.s c.requires c.heads_from-first.ensures
    c.loads_from-at.ensures lh ll lb
    c.put_counters.ensures
    c.put_pointers.ensures
    c.put_loads.ensures
    c.copy.ensures
    c.put_span.ensures
