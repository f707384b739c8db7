-- `state_bytes::pieces::put_rest` meets its contract: three groups of fields around the heads and the buffers.
use mathlib.Core.Path.{◌≡◌}
use lib.ListN.{length}
use Rattle.state_bytes.proofs.Writing.{rest_put}
use borrow.Author.Rules.{rules}
use Rattle.state_bytes.proofs.pieces.put_rest.Goals as goal

pub returns : goal.returns
returns c =
    let a = c.args in
    let ll : length a.loads ≡ 13 = search rules in
    rest_put _ _ _ _ a.c a.loads a.s c.requires ll c.put_counters.ensures
    c.put_loads.ensures c.put_span.ensures
